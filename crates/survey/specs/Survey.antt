-- Module 5, the raw survey: of the whole pairs in interleaved f32, an odd last number unread. All in f32, as the Rust has it. Definitions only.
use Rattle.std.specs.Prelude.{List, [], ◌∷◌, Bool, cond, ◌||◌, ℕ, Float}
use Rattle.std.specs.Float.{binary32}
use Rattle.std.specs.Float.Ieee.{lt, is_nan}
use Rattle.ieee754.specs.Binary32.{one_point98, ten_to_minus12}
use Rattle.sequences.specs.Folds.{some}
use Rattle.sums.specs.Complex.{norm_sqr}

unfoldable pub not_a_number : Float × Float → Bool
not_a_number s = is_nan s.0 || is_nan s.1

-- its squared size exceeds 1.98
unfoldable pub clipped : Float × Float → Bool
clipped s = lt one_point98 (norm_sqr binary32 s)

-- its squared size exceeds 1e-12
unfoldable pub signal : Float × Float → Bool
signal s = lt ten_to_minus12 (norm_sqr binary32 s)

-- 4 if there are no pairs, else 2 if a NaN, else 3 if clipped, else 1 if a signal, else 0
unfoldable pub survey_of : List (Float × Float) → ℕ
survey_of [] = 4
survey_of (s ∷ r) = let all = s ∷ r in cond (some not_a_number all) 2 (cond (some clipped all) 3 (cond (some signal all) 1 0))

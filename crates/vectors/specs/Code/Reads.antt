-- What stands at a place is what the number there stands for. They are proved here and not in proofs/, since an item of the code, `at_is`, cites them.
use Rattle.std.specs.Prelude.{◌≡◌, ℕ, eqb, List, refl}
use Rattle.std.specs.Float.{binary64}
use Rattle.std.specs.Float.Ieee.{of_bits}
use Rattle.vectors.specs.Code.Lines.{number_at, mark_at, single, float64_at, float32_at}

pub mark_is : (i : ℕ) (ws : List ℕ) → mark_at i ws ≡ eqb (number_at i ws) 1
unfolding mark_at
mark_is i ws = refl

pub float64_is : (i : ℕ) (ws : List ℕ) → float64_at i ws ≡ of_bits binary64 (number_at i ws)
unfolding float64_at
float64_is i ws = refl

pub float32_is : (i : ℕ) (ws : List ℕ) → float32_at i ws ≡ single (number_at i ws)
unfolding float32_at
float32_is i ws = refl

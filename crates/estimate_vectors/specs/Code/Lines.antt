-- The lines of the vectors of modules 4, 6 and 8 (reference/README.md: estimate, snr, bank, cancel, squared). A line is its kind, the arguments and
-- the numbers that the Rust answered; it agrees where the numbers that the definitions give stand behind the arguments, to the line's end. A list is
-- its count and its f32; a line whose list is longer than 8,192 does not agree. Definitions only.
use Rattle.std.specs.Prelude.{List, [], ◌∷◌, Bool, true, false, cond, ◌&&◌, ℕ, eqb, leb, drop}
use Rattle.std.specs.Float.{binary64}
use Rattle.std.specs.Float.Ieee.{to_bits}
use Rattle.estimate_correlation.specs.Correlation.{prepared}
use Rattle.estimate_esprit.specs.Esprit.{estimate}
use Rattle.estimate_snr.specs.MomentEstimate.{snr_of}
use Rattle.estimate_dispersion.specs.Dispersion.{dispersion_free}
use Rattle.vectors.specs.Code.Lines.{number_at, float64_at, float32_at, list_in, behind_list, is_rest}
use Rattle.estimate_vectors.specs.Code.Bank.{bank_agrees}

-- kinds 5 and 13: rate, list : frequency in Hz; of kind 13 the list's squares are estimated
unfoldable pub frequency_word : Bool → List ℕ → ℕ
frequency_word squared ws = to_bits binary64 (estimate (prepared squared (list_in float32_at (drop 2 ws))) (float64_at 1 ws))

unfoldable pub estimate_agrees : Bool → List ℕ → Bool
estimate_agrees squared ws = let list = drop 2 ws in leb (number_at 0 list) 8192 && is_rest (frequency_word squared ws ∷ []) (behind_list list)

-- kind 6: list : dB
unfoldable pub ratio_word : List ℕ → ℕ
ratio_word list = to_bits binary64 (snr_of (list_in float32_at list))

unfoldable pub snr_agrees : List ℕ → Bool
snr_agrees ws = let list = drop 1 ws in leb (number_at 0 list) 8192 && is_rest (ratio_word list ∷ []) (behind_list list)

-- kind 12: f1, f2, offset 1, offset 2 : the offset free of dispersion
unfoldable pub cancel_agrees : List ℕ → Bool
cancel_agrees ws =
    is_rest (to_bits binary64 (dispersion_free (float64_at 1 ws) (float64_at 2 ws) (float64_at 3 ws) (float64_at 4 ws)) ∷ []) (drop 5 ws)

-- by its kind; a line of any other does not agree
unfoldable pub kind_agrees : ℕ → List ℕ → Bool
kind_agrees kind ws =
    cond (eqb kind 5) (estimate_agrees false ws)
    (cond (eqb kind 6) (snr_agrees ws)
    (cond (eqb kind 11) (bank_agrees ws)
    (cond (eqb kind 12) (cancel_agrees ws)
    (cond (eqb kind 13) (estimate_agrees true ws) false))))

unfoldable pub line_agrees : List ℕ → Bool
line_agrees ws = kind_agrees (number_at 0 ws) ws

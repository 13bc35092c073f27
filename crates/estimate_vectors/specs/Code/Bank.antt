-- Kind 11, a block of a bank: modulation, two frequencies, nominal, target, target 2, frequency 2, three of (x[0], x[1], x[3], x[4]), fade steps, the
-- bank before and after (16 numbers each), answer's metric. A bank is three of (locked, metric), tracker, in fade, count, ended, ever locked,
-- `pll_tracker` locked, locked, phase, frequency, electron content. Definitions only.
use Rattle.std.specs.Prelude.{List, [], ◌∷◌, Bool, true, cond, ◌&&◌, ℕ, eqb, Float, drop, is_some}
use Rattle.std.specs.Float.{binary64}
use Rattle.std.specs.Float.Ieee.{to_bits}
use Rattle.ieee754.specs.Binary64.{plus, over, one, two, two_pi}
use Rattle.estimate_dispersion.specs.Dispersion.{dispersion_free, electron_content}
use Rattle.vectors.specs.Code.Lines.{number_at, mark_at, float64_at, ends_at, strip}

-- the tracker's frequency is twice the carrier's with BPSK, which is modulation 1
unfoldable pub scale_of : ℕ → Float
scale_of modulation = cond (eqb modulation 1) two one

-- the place where the states of the bank's tracker k begin
unfoldable pub states_place : ℕ → ℕ
states_place k = cond (eqb k 0) 7 (cond (eqb k 1) 11 15)

-- the offset in Hz of a frequency in rad/s
unfoldable pub offset_of : Float → Float → Float
offset_of scale x = over (over x scale) two_pi

-- the frequency of the answer, free of dispersion; x is the line from the tracker's states on
unfoldable pub frequency_from : Float → List ℕ → List ℕ → Float
frequency_from scale ws x =
    dispersion_free (float64_at 3 ws) (float64_at 6 ws)
    (plus (float64_at 4 ws) (offset_of scale (float64_at 1 x)))
    (plus (float64_at 5 ws) (offset_of scale (float64_at 3 x)))

-- its electron content, which may stay that of before
unfoldable pub electrons_from : List ℕ → List ℕ → Float
electrons_from ws x = electron_content (float64_at 4 ws) (float64_at 5 ws) (float64_at 0 x) (float64_at 2 x) (float64_at 35 ws)

-- both, of the tracker in use after the block
unfoldable pub bank_words : List ℕ → List ℕ
bank_words ws =
    let x = drop (states_place (number_at 42 ws)) ws in
    to_bits binary64 (frequency_from (scale_of (number_at 1 ws)) ws x) ∷ to_bits binary64 (electrons_from ws x) ∷ []

-- they stand in the bank after the block. Where the channel has not two frequencies, or is not locked after it, nothing is compared
unfoldable pub bank_agrees : List ℕ → Bool
bank_agrees ws = ends_at 53 ws && cond (mark_at 2 ws) (cond (mark_at 48 ws) (is_some (strip (bank_words ws) (drop 50 ws))) true) true

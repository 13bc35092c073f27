-- Samples by a rule: a carrier that turns by the same angle from pair to pair, with noise. A long block is so written as a few numbers. Every float
-- operation is rounded by itself. Definitions only.
use Rattle.std.specs.Prelude.{ℕ, zero, suc, ◌+◌, ◌*◌, ◌%◌, ◌^◌, List, [], ◌∷◌, Float}
use Rattle.std.specs.List.{flat_map}
use Rattle.std.specs.Float.{binary32}
use Rattle.ieee754.specs.Conversion.{convert}
use Rattle.ieee754.specs.Binary64.{plus, minus, times, over, half}
use Rattle.channel_model.specs.Opening.{whole}
use Rattle.channel_words.specs.declared.rules.Rule.{Rule}
use Rattle.channel_words.specs.declared.rules.Turn.{Turn}

-- the next of the noise's numbers: x · 1,103,515,245 + 12,345 modulo 2³¹
unfoldable pub next_noise : ℕ → ℕ
next_noise x = (x * 1103515245 + 12345) % 2 ^ 31

-- a number below 2³¹ as noise from -1/2 up to 1/2: x / 2³¹ - 1/2, which is exact
unfoldable pub noise_of : ℕ → Float
noise_of x = minus (over (whole x) (whole (2 ^ 31))) half

-- where the rule begins: the carrier at (re, im), the noise at the seed modulo 2³¹
unfoldable pub first_turn : Rule → Turn
first_turn r = record { re = r.re; im = r.im; x = r.seed % 2 ^ 31 }

-- from pair to pair the carrier turns by the angle that has this cosine and sine, and the noise goes on by two numbers
unfoldable pub next_turn : Rule → Turn → Turn
next_turn r t =
    record {
      re = minus (times t.re r.cos) (times t.im r.sin);
      im = plus (times t.re r.sin) (times t.im r.cos);
      x = next_noise (next_noise t.x);
    }

-- a component with noise on it, as an f32: with the noise's number x
unfoldable pub noisy : Rule → Float → ℕ → Float
noisy r v x = convert binary32 (plus v (times r.noise (noise_of x)))

-- n pairs from a turn on, each with the next two numbers of the noise
unfoldable pub ruled_from : Rule → Turn → ℕ → List (List Float)
ruled_from r t zero = []
ruled_from r t (suc n) =
    let x = next_noise t.x in
    (noisy r t.re x ∷ noisy r t.im (next_noise x) ∷ []) ∷ ruled_from r (next_turn r t) n

-- the rule's n pairs
unfoldable pub ruled_pairs : Rule → ℕ → List (List Float)
ruled_pairs r n = ruled_from r (first_turn r) n

-- the same as one list: re, im, re, im, ..
unfoldable pub ruled_samples : Rule → ℕ → List Float
ruled_samples r n = flat_map (λ pair. pair) (ruled_pairs r n)

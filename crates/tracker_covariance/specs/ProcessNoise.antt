-- Q, the process noise of one step (the scope, module 3: "F, Q, R and z are the source's"). Definitions only.
use Rattle.std.specs.Prelude.{Bool, cond, List, [], ◌∷◌, Float}
use Rattle.std.specs.Float.Ieee.{lt}
use Rattle.ieee754.specs.Binary64 as float
use Rattle.ieee754.specs.Sign.{absolute}
use Rattle.tracker_covariance.specs.declared.prediction.ProcessNoise.{ProcessNoise}
use Rattle.ieee754.specs.Binary64.{minus, times, zero, one}

-- the two frequencies count as equal: their ratio is within 1e-6 of 1
abbrev pub same_frequency : Float → Bool
same_frequency ratio = lt (absolute (minus ratio one)) float.ten_to_minus6

-- p, f and c on the first channel's diagonal, p, f2 and c2 on the second's; f12 and c12 couple the frequencies and the chirps
abbrev pub noise_table : Float → Float → Float → Float → Float → Float → Float → List Float
noise_table p f c f2 c2 f12 c12 =
    let o = zero in
    p ∷ o ∷ o ∷ o ∷ o ∷ o
    ∷ o ∷ f ∷ o ∷ o ∷ f12 ∷ o
    ∷ o ∷ o ∷ c ∷ o ∷ o ∷ c12
    ∷ o ∷ o ∷ o ∷ p ∷ o ∷ o
    ∷ o ∷ f12 ∷ o ∷ o ∷ f2 ∷ o
    ∷ o ∷ o ∷ c12 ∷ o ∷ o ∷ c2
    ∷ []

-- Q: the second channel's frequency and chirp move as the first's times the ratio
unfoldable pub noise_matrix : ProcessNoise → List Float
noise_matrix n =
    let p = n.q_p in
    let f = n.q_f in
    let c = n.q_c in
    let r = n.ratio in
    cond (same_frequency r)
    (noise_table p f c f c zero zero)
    (noise_table p f c (times (times f r) r) (times (times c r) r) (times f r) (times c r))

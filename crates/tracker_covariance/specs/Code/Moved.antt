-- F on the three numbers of one channel, by which the code goes through states and covariances. Definitions only.
use Rattle.std.specs.Prelude.{List, [], ◌∷◌, Float}
use Rattle.ieee754.specs.Binary64.{plus, times, half}

-- F on the phase p, the frequency f and the chirp c of one channel
abbrev pub moved : Float → Float → Float → Float → List Float
moved dt p f c =
    let dt2 = times (times half dt) dt in
    plus (plus p (times dt f)) (times dt2 c) ∷ plus f (times dt c) ∷ c ∷ []

-- The parts of what a sample says are all of it. Assumes nothing.
use mathlib.Core.Path.{◌≡◌, ap, ◌∙◌}
use lib.Ieee.{Float}
use Rattle.tracker_measurement.specs.declared.measure.Prior.{Prior}
use Rattle.tracker_measurement.specs.declared.modulation.Modulation.{Modulation}
use Rattle.tracker_measurement.specs.Measurement.{measured}
use Rattle.tracker_measurement.specs.Angle.{in_phase}
use Rattle.tracker_measurement.specs.declared.measure.Received.{Received}
use Rattle.tracker_measurement.specs.declared.measure.Detected.{Detected}
use Rattle.tracker_measurement.specs.Code.Parts.{received, detected, together}

-- m is the modulation, a, d and n the three parts
pub measured_by_parts : (v : Prior) (re im : Float) (m : Modulation) (a : Received) (d : Detected) (n : Float)
    → m ≡ v.modulation → a ≡ received v re im → d ≡ detected m a.point → n ≡ in_phase m d.error
    → together a d n ≡ measured v re im
unfolding measured received detected
measured_by_parts v re im m a d n em ea ed en =
    let p = (received v re im).point in
    ap (λ (i : Float). together a d i) en
    ∙ ap (λ (e : Detected). together a e (in_phase m e.error)) ed
    ∙ ap (λ (b : Received). together b (detected m b.point) (in_phase m (detected m b.point).error)) ea
    ∙ ap (λ (k : Modulation). together (received v re im) (detected k p) (in_phase k (detected k p).error)) em

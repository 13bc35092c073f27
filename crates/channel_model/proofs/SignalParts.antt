-- A block with a signal in two parts: what is made of the lists, and the started trackers over them. Assumes nothing.
use mathlib.Core.Path.{◌≡◌, refl}
use mathlib.Core.Bool.{cond}
use mathlib.Core.List.{List}
use lib.Ieee.{Float}
use Rattle.channel_samples.specs.Normalisation.{normalised}
use Rattle.estimate_snr.specs.MomentEstimate.{snr_of}
use Rattle.channel_model.specs.declared.Channel.{Channel}
use Rattle.channel_model.specs.Refusals.{BlockArgs}
use Rattle.channel_model.specs.Starting.{started}
use Rattle.channel_model.specs.Blocks.{with_signal}
use Rattle.channel_model.specs.Code.SignalStep.{shown_with, tracked_over}

pub two_parts : (c : Channel) (b : BlockArgs) (w : List Float) → with_signal c b w
    ≡ tracked_over (snr_of b.first) (started c b.first) (normalised b.first) (cond c.setup.two (normalised b.second) b.second) w
unfolding with_signal tracked_over shown_with
two_parts c b w = refl

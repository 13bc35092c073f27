-- A flag 1 block, its trackers started: the second part of `with_signal`. Definitions only.
use Rattle.std.specs.Prelude.{List, Float}
use Rattle.channel_model.specs.declared.Channel.{Channel}
use Rattle.channel_model.specs.Answers.{answer_of}
use Rattle.channel_model.specs.Tracking.{followed_by, with_shown}
use Rattle.channel_model.specs.Blocks.{Outcome, remembered}

-- what the trackers show, and the SNR
unfoldable pub shown_with : Float → Channel → Channel
shown_with snr c = remembered (with_shown c) snr

-- over the normalised lists l and m, which are left in the lent memory
unfoldable pub tracked_over : Float → Channel → List Float → List Float → List Float → Outcome Channel
tracked_over snr c l m w =
    let h = followed_by c.setup.bank c (record { two = c.setup.two; first = l; second = m }) w in
    let d = shown_with snr h.0 in
    record { answer = answer_of d; channel = d; first = l; second = m; windows = h.1 }

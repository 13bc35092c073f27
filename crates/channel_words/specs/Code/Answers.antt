-- A block's answer as the numbers of a line. Definitions only.
use Rattle.std.specs.Prelude.{ℕ, List, [], ◌∷◌}
use Rattle.std.specs.Float.{binary64}
use Rattle.std.specs.Float.Ieee.{to_bits}
use Rattle.vectors.specs.Code.Lines.{mark_number}
use Rattle.channel_model.specs.declared.Answer.{Answer}

-- refusal, locked, tracker, in fade, count, ended; phase, frequency, SNR, electron content and metric by their bits
unfoldable pub answer_words : Answer → List ℕ
answer_words a =
    a.refusal
    ∷ mark_number a.locked
    ∷ a.tracker
    ∷ mark_number a.in_fade
    ∷ a.fade_count
    ∷ mark_number a.ended
    ∷ to_bits binary64 a.phase
    ∷ to_bits binary64 a.frequency
    ∷ to_bits binary64 a.snr
    ∷ to_bits binary64 a.electrons
    ∷ to_bits binary64 a.metric
    ∷ []

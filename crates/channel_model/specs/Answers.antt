-- "A block's answer" (the scope, module 9): the channel's state after the call. Definitions only.
use Rattle.std.specs.Prelude.{ℕ, false, cond, ◌&&◌, Float}
use Rattle.ieee754.specs.Binary64 as float
use Rattle.bank_model.specs.declared.state.EkfTrackingBank.{EkfTrackingBank}
use Rattle.bank_model.specs.Choice.{numbered}
use Rattle.bank_model.specs.Fade.{in_use}
use Rattle.channel_model.specs.declared.Channel.{Channel}
use Rattle.channel_model.specs.declared.Answer.{Answer}

-- the metric of a bank's tracker in use; 0 where none is (no calls lead there)
unfoldable pub bank_metric : EkfTrackingBank → Float
bank_metric b = cond (in_use b) (numbered b.active_idx b).ekf.lock_metric float.zero

-- "0 when not locked, else that of the tracker in use"
unfoldable pub metric_of : Channel → Float
metric_of c = cond c.is_locked (cond c.setup.bank (bank_metric c.bank) c.pll.ekf.lock_metric) float.zero

-- "without a bank the tracker is 3 and in fade, fade count and ended are 0"
unfoldable pub answer_of : Channel → Answer
answer_of c =
    let k = c.setup.bank in
    record {
      refusal = 0;
      locked = c.is_locked;
      tracker = cond k c.bank.active_idx 3;
      in_fade = k && c.bank.in_fade;
      fade_count = cond k c.bank.fade_counter 0;
      ended = k && c.bank.terminated_in_fade;
      phase = c.reading.phase;
      frequency = c.reading.frequency;
      snr = c.reading.snr;
      electrons = c.reading.electrons;
      metric = metric_of c;
    }

-- "other fields 0, tracker 3"
unfoldable pub refused_answer : ℕ → Answer
refused_answer n =
    let f = false in
    let o = float.zero in
    record { refusal = n; locked = f; tracker = 3; in_fade = f; fade_count = 0; ended = f; phase = o; frequency = o; snr = o; electrons = o; metric = o }

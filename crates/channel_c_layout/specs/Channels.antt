-- A channel in C's layout, and back. Definitions only.
use Rattle.std.specs.Prelude.{ℕ, Bool, true, false, cond, eqb}
use Rattle.channel_model.specs.declared.Status.{Status}
use Rattle.channel_model.specs.declared.Status.TheVariants.{Idle, Assigned}
use Rattle.channel_model.specs.declared.Channel.{Channel}
use Rattle.channel_model.specs.Assigning.{idle}
use Rattle.channel_c_layout.specs.declared.plain_channel.PlainChannel.{PlainChannel}
use Rattle.channel_c_layout.specs.Trackers.{plain_tracker, real_tracker}

unfoldable pub plain_channel : Channel → PlainChannel
plain_channel c =
    let b = c.bank in
    record {
      setup = c.setup;
      idle = idle c.status;
      carriers = c.carriers;
      pll = plain_tracker c.pll;
      t0 = plain_tracker b.t0;
      t1 = plain_tracker b.t1;
      t2 = plain_tracker b.t2;
      active_idx = b.active_idx;
      in_fade = b.in_fade;
      fade_counter = b.fade_counter;
      max_fade_steps = b.max_fade_steps;
      terminated_in_fade = b.terminated_in_fade;
      ever_locked = c.ever_locked;
      last_snr = c.last_snr;
      is_locked = c.is_locked;
      reading = c.reading;
    }

abbrev pub status_of : Bool → Status
status_of true = Idle
status_of false = Assigned

unfoldable pub real_channel : PlainChannel → Channel
real_channel c =
    record {
      setup = c.setup;
      status = status_of c.idle;
      carriers = c.carriers;
      pll = real_tracker c.pll;
      bank =
          record {
            t0 = real_tracker c.t0;
            t1 = real_tracker c.t1;
            t2 = real_tracker c.t2;
            active_idx = c.active_idx;
            in_fade = c.in_fade;
            fade_counter = c.fade_counter;
            max_fade_steps = c.max_fade_steps;
            terminated_in_fade = c.terminated_in_fade;
          };
      ever_locked = c.ever_locked;
      last_snr = c.last_snr;
      is_locked = c.is_locked;
      reading = c.reading;
    }

-- The struct after a call that left the channel c and answered this refusal: of a refused call it is the one that was given, to the last number.
unfoldable pub given_back : ℕ → PlainChannel → Channel → PlainChannel
given_back refusal given c = cond (eqb refusal 0) (plain_channel c) given

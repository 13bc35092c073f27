-- What a release forgets: the status, the first target, the tracker in use, the fade, all marks and all that is shown but the electron content. Nothing
-- cites it: it is what refuses the two edits of `released` in must-fail/. Assumes nothing.
use mathlib.Core.Path.{◌≡◌, refl}
use Rattle.channel_model.specs.declared.Channel.{Channel}
use Rattle.channel_model.specs.Values.{unlocked}
use Rattle.channel_model.specs.Opening.{resting_bank, idle_channel}
use Rattle.channel_model.specs.Releasing.{kept_carriers, released}
use Rattle.channel_model.specs.Calls.{release, ask, called}

-- the channel c, with these of the channel d
unfoldable pub marked : Channel → Channel → Channel
marked c d =
    record {
      setup = c.setup;
      status = d.status;
      carriers =
          record {
            nominal = c.carriers.nominal;
            target = d.carriers.target;
            target2 = c.carriers.target2;
            frequency2 = c.carriers.frequency2;
          };
      pll = c.pll;
      bank =
          record {
            t0 = c.bank.t0;
            t1 = c.bank.t1;
            t2 = c.bank.t2;
            active_idx = d.bank.active_idx;
            in_fade = d.bank.in_fade;
            fade_counter = d.bank.fade_counter;
            max_fade_steps = c.bank.max_fade_steps;
            terminated_in_fade = d.bank.terminated_in_fade;
          };
      ever_locked = d.ever_locked;
      last_snr = d.last_snr;
      is_locked = d.is_locked;
      reading =
          record {
            phase = d.reading.phase;
            frequency = d.reading.frequency;
            snr = d.reading.snr;
            electrons = c.reading.electrons;
          };
    }

pub release_forgets : (c d : Channel) → called (marked c d) (ask release) ≡ called c (ask release)
unfolding marked called released kept_carriers idle_channel resting_bank unlocked
release_forgets c d = refl

-- Release (the scope, module 9; `reset_to_idle`). The first target, the marks and what is shown are set as opening has them; the trackers are unlocked
-- and keep all else, which figures shows. Nominal, the second carriers and the electron content stay. No line is added to the source's: after
-- it nothing of an earlier pass can be read by a block on a one-frequency channel. Definitions only.
use Rattle.ieee754.specs.Binary64 as float
use Rattle.channel_model.specs.declared.Carriers.{Carriers}
use Rattle.channel_model.specs.declared.Channel.{Channel}
use Rattle.channel_model.specs.Values.{unlocked}
use Rattle.channel_model.specs.Opening.{resting_bank, idle_channel}

unfoldable pub kept_carriers : Carriers → Carriers
kept_carriers a = record { nominal = a.nominal; target = float.zero; target2 = a.target2; frequency2 = a.frequency2 }

unfoldable pub released : Channel → Channel
released c =
    idle_channel c.setup (kept_carriers c.carriers) c.reading.electrons (unlocked c.pll)
    (resting_bank c.bank.max_fade_steps (unlocked c.bank.t0) (unlocked c.bank.t1) (unlocked c.bank.t2))

-- A channel that goes out in C's layout comes back as it was: what a C caller holds between two calls is the channel itself. So does a struct that a refused
-- call is given, whatever its numbers.
use Prim.Native.Nat.{ℕ}
use mathlib.Core.Path.{◌≡◌, refl, sym}
use mathlib.Core.Logic.{◌≢◌}
use mathlib.Core.Bool.{Bool, true, false, cond}
use lib.Dec.{eqb}
use borrow.Author.Tests.{ne_eqb, eqb-false}
use Rattle.tracker_measurement.specs.declared.modulation.Modulation.{Modulation}
use Rattle.tracker_measurement.specs.declared.modulation.Modulation.TheVariants.{Carrier, Bpsk, Qpsk}
use Rattle.tracker.specs.declared.state.Tracked.{Tracked}
use Rattle.channel_model.specs.declared.Status.{Status}
use Rattle.channel_model.specs.declared.Status.TheVariants.{Idle, Assigned}
use Rattle.channel_model.specs.declared.Channel.{Channel}
use Rattle.channel_model.specs.Opening.{modulation_of}
use Rattle.channel_model.specs.Assigning.{idle}
use Rattle.tracker_measurement.specs.Numbers.{modulation_number}
use Rattle.channel_c_layout.specs.declared.plain_channel.PlainChannel.{PlainChannel}
use Rattle.channel_c_layout.specs.Trackers.{plain_tracker, real_tracker}
use Rattle.channel_c_layout.specs.Channels.{plain_channel, real_channel, status_of, given_back}

modulation_back : (m : Modulation) → modulation_of (modulation_number m) ≡ m
unfolding modulation_of
modulation_back Carrier = refl
modulation_back Bpsk = refl
modulation_back Qpsk = refl

status_back : (s : Status) → status_of (idle s) ≡ s
unfolding idle
status_back Idle = refl
status_back Assigned = refl

pub tracker_back : (h : Tracked) → real_tracker (plain_tracker h) ≡ h
unfolding real_tracker plain_tracker
tracker_back h = rw (modulation_back h.ekf.modulation)

pub channel_back : (c : Channel) → real_channel (plain_channel c) ≡ c
unfolding real_channel plain_channel
channel_back c =
    rw (tracker_back c.pll, tracker_back c.bank.t0, tracker_back c.bank.t1, tracker_back c.bank.t2, status_back c.status)

-- ---- the struct after a call

pub refused_given : (n : ℕ) (p : PlainChannel) (c : Channel) → n ≢ 0 → given_back n p c ≡ p
unfolding given_back
refused_given n p c h = rw (ne_eqb n 0 h)

-- It stands for the channel that the call left, if a refused call leaves the channel that the struct given stands for.
pub given_back_lem : (n : ℕ) (p : PlainChannel) (c : Channel) → (n ≢ 0 → c ≡ real_channel p) → real_channel (given_back n p c) ≡ c
unfolding given_back
given_back_lem n p c h = go (eqb n 0) refl
  where
    go : (x : Bool) → eqb n 0 ≡ x → real_channel (cond x (plain_channel c) p) ≡ c
    go true e = channel_back c
    go false e = sym (h (eqb-false n 0 e))

-- What a letter and a number set. In quotation marks stands what the text of the cases says at its head. Definitions only.
use Rattle.std.specs.Prelude.{Bool, false, List, [], ◌∷◌, ℕ, Float, Result, Ok, Err}
use Prim.Native.Char.{code}
use Rattle.std.specs.Float.{binary32}
use Rattle.std.specs.Float.Ieee.{eq, to_unsigned}
use Rattle.ieee754.specs.Binary64.{times, zero, one, two_pi}
use Rattle.ieee754.specs.Conversion.{convert}
use Rattle.tracker.specs.declared.state.CarrierPllEkf.{CarrierPllEkf}
use Rattle.tracker.specs.declared.state.Tracked.{Tracked}
use Rattle.channel_model.specs.declared.Settings.{Settings}
use Rattle.channel_model.specs.declared.Carriers.{Carriers}
use Rattle.channel_model.specs.declared.Channel.{Channel}
use Rattle.channel_script.specs.declared.session.Lists.{Lists}
use Rattle.channel_script.specs.declared.session.Session.{Session}
use Rattle.channel_script.specs.declared.letters.NoLetter.{NoLetter}
use Rattle.channel_script.specs.declared.place.Place.{Place}
use Rattle.channel_script.specs.declared.place.Place.TheVariants as place
use Rattle.channel_script.specs.declared.change.Setting.{Setting}
use Rattle.channel_script.specs.declared.change.Setting.TheVariants.{Rate, Factor, Modulation, Fade, Ratio, DualLock, Bank, Two}
use Rattle.channel_script.specs.declared.change.Carrier.{Carrier}
use Rattle.channel_script.specs.declared.change.Carrier.TheVariants.{Nominal, Target, Target2, Frequency2}
use Rattle.channel_script.specs.declared.change.ListValue.{ListValue}
use Rattle.channel_script.specs.declared.change.ListValue.TheVariants.{Flag, First, Second, Windows, Re, Im, Other, Fill}
use Rattle.channel_script.specs.declared.change.TrackerValue.{TrackerValue}
use Rattle.channel_script.specs.declared.change.TrackerValue.TheVariants.{LockMark, Metric, Guard, Sums, Frequency}
use Rattle.channel_script.specs.declared.change.Change.{Change}
use Rattle.channel_script.specs.declared.change.Change.TheVariants as change
use Rattle.channel_script.specs.Code.Letters.{named}
use Rattle.channel_script.specs.Code.Places.{place_of}

-- a number as a whole one, as a switch ("as 0 or 1"), and as an f32
abbrev pub whole : Float → ℕ
whole v = to_unsigned 64 v

abbrev pub on : Float → Bool
on v = eq v one

abbrev pub single : Float → Float
single v = convert binary32 v

-- "Before open: r rate, f factor, m modulation, s fade in seconds, k ratio; as 0 or 1, d dual lock, b bank, w two frequencies. Before assign, in Hz: n nominal,
-- t target, u second target, v frequency2. Before the call p: g flag; h, i and j how many numbers the first list, the second and the window memory have; x and
-- y the first sample, z the second list's first number, e all other numbers. In a built state: K the tracker that is meant, 0 to 2 or 3 for pll_tracker, and of
-- it L lock mark, M metric, G guard, Q both sums of its window, F frequency in Hz at phase 0; U the tracker in use"
abbrev pub set_letters : Float → List (ℕ × Change)
set_letters v =
    (code "r", change.Setting (Rate (whole v)))
    ∷ (code "f", change.Setting (Factor (whole v)))
    ∷ (code "m", change.Setting (Modulation (whole v)))
    ∷ (code "s", change.Setting (Fade (whole v)))
    ∷ (code "k", change.Setting (Ratio v))
    ∷ (code "d", change.Setting (DualLock (on v)))
    ∷ (code "b", change.Setting (Bank (on v)))
    ∷ (code "w", change.Setting (Two (on v)))
    ∷ (code "n", change.Carrier (Nominal v))
    ∷ (code "t", change.Carrier (Target v))
    ∷ (code "u", change.Carrier (Target2 v))
    ∷ (code "v", change.Carrier (Frequency2 v))
    ∷ (code "g", change.List (Flag (whole v)))
    ∷ (code "h", change.List (First (whole v)))
    ∷ (code "i", change.List (Second (whole v)))
    ∷ (code "j", change.List (Windows (whole v)))
    ∷ (code "x", change.List (Re (single v)))
    ∷ (code "y", change.List (Im (single v)))
    ∷ (code "z", change.List (Other (single v)))
    ∷ (code "e", change.List (Fill (single v)))
    ∷ (code "K", change.Meant (place_of (whole v)))
    ∷ (code "L", change.Tracker (LockMark (on v)))
    ∷ (code "M", change.Tracker (Metric v))
    ∷ (code "G", change.Tracker (Guard (whole v)))
    ∷ (code "Q", change.Tracker (Sums v))
    ∷ (code "F", change.Tracker (Frequency v))
    ∷ (code "U", change.InUse (whole v))
    ∷ []

-- ---- what each changes

abbrev pub settings_with : Settings → Setting → Settings
settings_with o (Rate n) = record o { rate = n }
settings_with o (Factor n) = record o { factor = n }
settings_with o (Modulation n) = record o { modulation = n }
settings_with o (Fade n) = record o { fade = n }
settings_with o (Ratio x) = record o { ratio = x }
settings_with o (DualLock m) = record o { dual_lock = m }
settings_with o (Bank m) = record o { bank = m }
settings_with o (Two m) = record o { two = m }

abbrev pub carriers_with : Carriers → Carrier → Carriers
carriers_with a (Nominal f) = record a { nominal = f }
carriers_with a (Target f) = record a { target = f }
carriers_with a (Target2 f) = record a { target2 = f }
carriers_with a (Frequency2 f) = record a { frequency2 = f }

abbrev pub lists_with : Lists → ListValue → Lists
lists_with l (Flag n) = record l { flag = n }
lists_with l (First n) = record l { first = n }
lists_with l (Second n) = record l { second = n }
lists_with l (Windows n) = record l { windows = n }
lists_with l (Re x) = record l { re = x }
lists_with l (Im x) = record l { im = x }
lists_with l (Other x) = record l { other = x }
lists_with l (Fill x) = record l { fill = x }

abbrev pub tracker_with : CarrierPllEkf → TrackerValue → CarrierPllEkf
tracker_with t (LockMark m) = record t { is_locked = m }
tracker_with t (Metric x) = record t { lock_metric = x }
tracker_with t (Guard n) = record t { convergence_guard = n }
tracker_with t (Sums x) = record t { power = record t.power { sum_abs_i = x; sum_q_sq = x } }
tracker_with t (Frequency f) = record t { x = zero ∷ times two_pi f ∷ zero ∷ zero ∷ zero ∷ zero ∷ [] }

abbrev pub tracked_with : Tracked → TrackerValue → Tracked
tracked_with h x = record h { ekf = tracker_with h.ekf x }

-- only the tracker that is meant
abbrev pub channel_with : Channel → Place → TrackerValue → Channel
channel_with c place.First x = record c { bank = record c.bank { t0 = tracked_with c.bank.t0 x } }
channel_with c place.Second x = record c { bank = record c.bank { t1 = tracked_with c.bank.t1 x } }
channel_with c place.Third x = record c { bank = record c.bank { t2 = tracked_with c.bank.t2 x } }
channel_with c place.Pll x = record c { pll = tracked_with c.pll x }

abbrev pub session_with : Session → Change → Session
session_with s (change.Setting x) = record s { plan = record s.plan { settings = settings_with s.plan.settings x } }
session_with s (change.Carrier x) = record s { plan = record s.plan { carriers = carriers_with s.plan.carriers x } }
session_with s (change.List x) = record s { plan = record s.plan { lists = lists_with s.plan.lists x } }
session_with s (change.Meant p) = record s { plan = record s.plan { place = p } }
session_with s (change.Tracker x) = record s { channel = channel_with s.channel s.plan.place x }
session_with s (change.InUse n) = record s { channel = record s.channel { bank = record s.channel.bank { active_idx = n } } }

-- a letter that stands for nothing is remembered
abbrev pub after_change : Session → Result Change NoLetter → Session
after_change s (Ok change) = session_with s change
after_change s (Err e) = record s { known = false }

-- "A letter, a colon and a number sets."
unfoldable pub set_by : Session → ℕ → Float → Session
set_by s b v = after_change s (named b (set_letters v))

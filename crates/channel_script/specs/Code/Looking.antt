-- What is looked at in a session, by a letter, or by a place and a letter: a number each, a mark as 0 or 1. In quotation marks stands what the text of
-- the cases says at its head. Definitions only.
use Rattle.std.specs.Prelude.{Bool, cond, List, [], ◌∷◌, ◌++◌, map, ℕ, ◌+◌, eqb, pos, get_or, Float, Option, None, Result, Ok, Err, unwrap_or}
use Prim.Native.Char.{code}
use Rattle.std.specs.Float.{nan, binary32, binary64}
use Rattle.std.specs.Float.Ieee.{add, ne, of_int}
use Rattle.ieee754.specs.Binary64.{over, zero, one, two}
use Rattle.ieee754.specs.Conversion.{convert}
use Rattle.sequences.specs.Folds.{some}
use Rattle.tracker.specs.declared.state.CarrierPllEkf.{CarrierPllEkf}
use Rattle.channel_model.specs.declared.Answer.{Answer}
use Rattle.channel_model.specs.declared.Channel.{Channel}
use Rattle.channel_model.specs.Figures.{figures}
use Rattle.channel_script.specs.declared.letters.NoLetter.{NoLetter}
use Rattle.channel_script.specs.declared.place.Place.{Place}
use Rattle.channel_script.specs.declared.place.Place.TheVariants.{First, Second, Third, Pll}
use Rattle.channel_script.specs.declared.session.Seen.{Seen}
use Rattle.channel_script.specs.declared.session.Session.{Session}
use Rattle.channel_script.specs.Code.Letters.{found, named, letters}
use Rattle.channel_script.specs.Code.Places.{place_letters}

-- what a name that stands for nothing has: no number, which equals none
abbrev pub nothing : Float
nothing = nan

-- a whole number, and a mark
abbrev pub count : ℕ → Float
count n = of_int binary64 (pos n)

abbrev pub mark : Bool → Float
mark on = cond on one zero

-- "Of the last block's answer: R refusal, L locked, T tracker, I in fade, C fade count, E ended, P phase, F frequency, S SNR, N electron content, M metric"
abbrev pub answer_names : Answer → List (ℕ × Float)
answer_names a =
    (code "R", count a.refusal)
    ∷ (code "L", mark a.locked)
    ∷ (code "T", count a.tracker)
    ∷ (code "I", mark a.in_fade)
    ∷ (code "C", count a.fade_count)
    ∷ (code "E", mark a.ended)
    ∷ (code "P", a.phase)
    ∷ (code "F", a.frequency)
    ∷ (code "S", a.snr)
    ∷ (code "N", a.electrons)
    ∷ (code "M", a.metric)
    ∷ []

-- "small letters for the block before"
abbrev pub small : ℕ × Float → ℕ × Float
small entry = (entry.0 + 32, entry.1)

-- "O the number that the last open or assign answered; * the lock marks of all blocks; X, Y the first sample and A the second list's second number as the
-- block left them, B whether it changed the window memory"
abbrev pub seen_names : Seen → List (ℕ × Float)
seen_names e =
    (code "O", count e.number)
    ∷ (code "*", count e.marks)
    ∷ (code "X", e.re)
    ∷ (code "Y", e.im)
    ∷ (code "A", e.other)
    ∷ (code "B", mark e.touched)
    ∷ []

-- "in the channel K locked, V ever locked, Z last SNR, G target, J frequency and Q SNR that are shown, U tracker in use, 1 to 4 rate, factor, bank, two
-- frequencies"
abbrev pub channel_names : Channel → List (ℕ × Float)
channel_names c =
    (code "K", mark c.is_locked)
    ∷ (code "V", mark c.ever_locked)
    ∷ (code "Z", c.last_snr)
    ∷ (code "G", c.carriers.target)
    ∷ (code "J", c.reading.frequency)
    ∷ (code "Q", c.reading.snr)
    ∷ (code "U", count c.bank.active_idx)
    ∷ (code "1", count c.setup.rate)
    ∷ (code "2", count c.setup.factor)
    ∷ (code "3", mark c.setup.bank)
    ∷ (code "4", mark c.setup.two)
    ∷ []

-- in how many places two lists differ
unfoldable pub differing : List Float → List Float → ℕ
differing [] g = 0
differing (x ∷ f) [] = 0
differing (x ∷ f) (y ∷ g) = cond (ne x y) 1 0 + differing f g

-- the sum of a number of each of the three trackers, of the four that a tracker has among the figures
abbrev pub over_trackers : ℕ → List Float → Float
over_trackers k f = add binary32 (add binary32 (get_or f k nothing) (get_or f (k + 4) nothing)) (get_or f (k + 8) nothing)

-- "of the figures H the sum of the lock marks, W that of the metrics, D how many differ from the remembered ones"
abbrev pub figure_names : List Float → List Float → List (ℕ × Float)
figure_names f remembered = (code "H", over_trackers 1 f) ∷ (code "W", over_trackers 0 f) ∷ (code "D", count (differing f remembered)) ∷ []

-- every name of one letter
unfoldable pub one_letter : Seen → Channel → List (ℕ × Float)
one_letter e c =
    seen_names e ++ (channel_names c ++ (figure_names (figures c) e.figures ++ (answer_names e.answer ++ map small (answer_names e.before))))

-- "L, M, P or H: a tracker's lock mark, metric, phase or half its phase"
abbrev pub tracker_names : CarrierPllEkf → List (ℕ × Float)
tracker_names t =
    (code "L", mark t.is_locked) ∷ (code "M", t.lock_metric) ∷ (code "P", get_or t.x 0 nothing) ∷ (code "H", over (get_or t.x 0 nothing) two) ∷ []

abbrev pub tracker_at : Channel → Place → CarrierPllEkf
tracker_at c First = c.bank.t0.ekf
tracker_at c Second = c.bank.t1.ekf
tracker_at c Third = c.bank.t2.ekf
tracker_at c Pll = c.pll.ekf

abbrev pub found_at : Channel → Result Place NoLetter → ℕ → Option Float
found_at c (Ok place) b = found b (tracker_names (tracker_at c place))
found_at c (Err e) b = None

-- "A place, 0 to 2 or 3 for pll_tracker", and a letter
abbrev pub found_in_tracker : Channel → ℕ → ℕ → Option Float
found_in_tracker c place b = found_at c (named place place_letters) b

-- the number that a name stands for
unfoldable pub quantity_of : Session → List ℕ → Float
quantity_of s [] = nothing
quantity_of s (b ∷ []) = unwrap_or (found b (one_letter s.seen s.channel)) nothing
quantity_of s (place ∷ b ∷ []) = unwrap_or (found_in_tracker s.channel place b) nothing
quantity_of s (a ∷ b ∷ d ∷ r) = nothing

-- What is expected of a number that a list has, X, Y or A, is an f32, so the nearest one is meant.
unfoldable pub rounded_for : List ℕ → Float → Float
rounded_for [] v = v
rounded_for (b ∷ []) v = cond (some (eqb b) (letters "XYA")) (convert binary32 v) v
rounded_for (a ∷ b ∷ r) v = v

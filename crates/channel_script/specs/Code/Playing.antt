-- A script: what each of its letters does. In quotation marks stands what the text of the cases says at its head. Definitions only.
use Rattle.std.specs.Prelude.{true, false, List, [], ◌∷◌, ℕ, replicate, Result, Ok, Err}
use Prim.Native.Char.{code}
use Rattle.std.specs.Float.{binary32}
use Rattle.std.specs.Float.Ieee.{div}
use Rattle.ieee754.specs.Binary64 as float
use Rattle.ieee754.specs.Binary64.{zero, one}
use Rattle.ieee754.specs.Binary32 as single
use Rattle.sequences.specs.Folds.{fold}
use Rattle.channel_model.specs.declared.Settings.{Settings}
use Rattle.channel_model.specs.declared.Carriers.{Carriers}
use Rattle.channel_model.specs.Returns.{Returned}
use Rattle.channel_model.specs.Opening.{opened}
use Rattle.channel_model.specs.Assigning.{assigned}
use Rattle.channel_model.specs.Releasing.{released}
use Rattle.channel_model.specs.Figures.{figures}
use Rattle.channel_model.specs.Answers.{refused_answer}
use Rattle.channel_script.specs.declared.letters.NoLetter.{NoLetter}
use Rattle.channel_script.specs.declared.place.Place.TheVariants.{Pll}
use Rattle.channel_script.specs.declared.call.Call.{Call}
use Rattle.channel_script.specs.declared.call.Call.TheVariants.{Open, Assign, Release, Hold, Bring, Remember, Planned, Block}
use Rattle.channel_script.specs.declared.session.Lists.{Lists}
use Rattle.channel_script.specs.declared.session.Plan.{Plan}
use Rattle.channel_script.specs.declared.session.Seen.{Seen}
use Rattle.channel_script.specs.declared.session.Session.{Session}
use Rattle.channel_script.specs.Code.Letters.{named}
use Rattle.channel_script.specs.Code.Looking.{count}
use Rattle.channel_script.specs.Code.Blocks.{no_lists, sample, shaken, doubled, block_left, with_block}

-- ---- the beginning

-- "r rate (40,000), f factor (1), m modulation (0), s fade in seconds (5), k ratio (1); d dual lock, b bank, w two frequencies (all 0)"
abbrev pub first_settings : Settings
first_settings =
    record { rate = 40000; factor = 1; modulation = 0; adaptive = false; dual_lock = false; bank = false; two = false; fade = 5; ratio = one }

-- "n nominal (0), t target (137,500,000), u second target (0), v frequency2 (0)"
abbrev pub first_carriers : Carriers
first_carriers = record { nominal = zero; target = count 137500000; target2 = zero; frequency2 = zero }

abbrev pub first_plan : Plan
first_plan = record { settings = first_settings; carriers = first_carriers; lists = no_lists 0; place = Pll }

-- nothing answered yet: all 0, and no tracker
abbrev pub nothing_seen : ℕ → Seen
nothing_seen number =
    let a = refused_answer 0 in
    record {
      number = number;
      answer = a;
      before = a;
      held = a;
      marks = 0;
      re = zero;
      im = zero;
      other = zero;
      touched = false;
      figures = replicate 12 zero;
    }

-- "A case begins with a channel opened as below."
unfoldable pub first_session : Session
first_session = let r = opened first_settings in record { known = true; plan = first_plan; seen = nothing_seen r.refusal; channel = r.channel }

-- ---- the letters

-- "O open, a assign, r release, p a block as it is set; 0 to 4 a block without samples of that flag; with one sample s flag 0 (0.5, 0.25), and of flag 1
-- c (1, 0), q (0, 1), b (0.8, 0.6), n (3, 4), o (0, 0); j flag 1 and 4,096 samples that jump about; d flag 1 with a sample for each of two frequencies, D flag 0
-- with the same. h holds an answer, H brings it to the place of the block before, y remembers the figures"
abbrev pub call_letters : List (ℕ × Call)
call_letters =
    (code "O", Open)
    ∷ (code "a", Assign)
    ∷ (code "r", Release)
    ∷ (code "h", Hold)
    ∷ (code "H", Bring)
    ∷ (code "y", Remember)
    ∷ (code "p", Planned)
    ∷ (code "0", Block (no_lists 0))
    ∷ (code "1", Block (no_lists 1))
    ∷ (code "2", Block (no_lists 2))
    ∷ (code "3", Block (no_lists 3))
    ∷ (code "4", Block (no_lists 4))
    ∷ (code "s", Block (sample 0 single.half float.quarter))
    ∷ (code "c", Block (sample 1 single.one single.zero))
    ∷ (code "q", Block (sample 1 single.zero single.one))
    ∷ (code "b", Block (sample 1 (div binary32 float.four float.five) (div binary32 float.three float.five)))
    ∷ (code "n", Block (sample 1 float.three float.four))
    ∷ (code "o", Block (sample 1 single.zero single.zero))
    ∷ (code "j", Block shaken)
    ∷ (code "d", Block (doubled 1))
    ∷ (code "D", Block (doubled 0))
    ∷ []

-- after open or assign
abbrev pub after_return : Session → Returned → Session
after_return s r = record s { seen = record s.seen { number = r.refusal }; channel = r.channel }

unfoldable pub after_block : Session → Lists → Session
after_block s l = let o = block_left s.channel l in record s { seen = with_block s.seen o; channel = o.channel }

abbrev pub after_call : Session → Call → Session
after_call s Open = after_return s (opened s.plan.settings)
after_call s Assign = after_return s (assigned s.channel s.plan.carriers)
after_call s Release = record s { channel = released s.channel }
after_call s Hold = record s { seen = record s.seen { held = s.seen.answer } }
after_call s Bring = record s { seen = record s.seen { before = s.seen.held } }
after_call s Remember = record s { seen = record s.seen { figures = figures s.channel } }
after_call s Planned = after_block s s.plan.lists
after_call s (Block l) = after_block s l

-- a letter that stands for nothing is remembered
abbrev pub after : Session → Result Call NoLetter → Session
after s (Ok call) = after_call s call
after s (Err e) = record s { known = false }

-- "A script makes a call for each letter"
unfoldable pub after_letter : Session → ℕ → Session
after_letter s b = after s (named b call_letters)

unfoldable pub after_script : Session → List ℕ → Session
after_script s script = fold after_letter s script

-- A bank over the samples of a block (the scope, module 7; `process_block_with_center`): each sample goes through tracker 0, 1 and 2 before the next.
-- Tracker i has the stretch 2,048 × (i + 1) of the window memory; the first stretch is that of `pll_tracker`. Definitions only.
use Rattle.std.specs.Prelude.{ℕ, ◌*◌, Bool, cond, ◌&&◌, List, eqb, Float}
use Rattle.sequences.specs.Pairs.{pairs, zip}
use Rattle.sequences.specs.Folds.{fold}
use Rattle.sequences.specs.Stretches.{within}
use Rattle.tracker_model.specs.Following.{TrackerWindow, follow, follow_dual, over_lists}
use Rattle.bank_model.specs.declared.state.EkfTrackingBank.{EkfTrackingBank}
use Rattle.bank_model.specs.Values.{with_trackers}

-- the samples of a block: one list, or two of equal length with two frequencies
pub record Lists : Type 0 where
  pub two : Bool
  pub first : List Float
  pub second : List Float

-- a tracker over them, on stretch i of the window memory
unfoldable pub on_stretch : ℕ → Float → Bool → Lists → TrackerWindow → TrackerWindow
on_stretch i dt fade l h = within (2048 * i) 2048 (over_lists l.two dt fade l.first l.second) h

-- tracker i is the one in use, in a fade
unfoldable pub fades : EkfTrackingBank → ℕ → Bool
fades b i = b.in_fade && eqb b.active_idx i

-- a bank with the window memory
abbrev pub BankWindows : Type 0
BankWindows = EkfTrackingBank × List Float

-- f on tracker 0, then 1, then 2, each with its stretch; f is told whether the tracker fades
unfoldable pub in_turn : (Bool → TrackerWindow → TrackerWindow) → BankWindows → BankWindows
in_turn f k =
    let b = k.0 in
    let h0 = within (2048 * 1) 2048 (f (fades b 0)) (b.t0, k.1) in
    let h1 = within (2048 * 2) 2048 (f (fades b 1)) (b.t1, h0.1) in
    let h2 = within (2048 * 3) 2048 (f (fades b 2)) (b.t2, h1.1) in
    (with_trackers b h0.0 h1.0 h2.0 b.terminated_in_fade, h2.1)

-- one sample through the bank, where f takes a tracker over it; with two frequencies it is a sample of each
abbrev pub through : {S : Type 0} → (Bool → TrackerWindow → S → TrackerWindow) → BankWindows → S → BankWindows
through f k s = in_turn (λ (fade : Bool) (h : TrackerWindow). f fade h s) k

unfoldable pub bank_followed : Float → Lists → BankWindows → BankWindows
bank_followed dt l k =
    cond l.two (fold (through (follow_dual dt)) k (zip (pairs l.first) (pairs l.second))) (fold (through (follow dt)) k (pairs l.first))

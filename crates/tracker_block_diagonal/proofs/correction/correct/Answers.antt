-- `correct` takes the gain and corrects each half, as the 36 numbers are corrected, where its test is passed.
use mathlib.Core.Path.{◌≡◌, refl, sym, ap, ◌∙◌, subst}
use mathlib.Core.Bool.{Bool, true, false}
use lib.Dec.{T}
use lib.Ieee.{Float, binary64, fits, le}
use lib.Ieee.Scale.{finite}
use Rattle.std.specs.Bool.{then_some}
use Rattle.std.specs.Prelude.{Option, IfSome}
use Rattle.ieee754.specs.Binary64.{plus, times, zero, ten_to_minus12}
use Rattle.tracker_covariance.specs.Correction.{innovation_variance, corrected}
use Rattle.tracker_block_diagonal.specs.declared.half.Gain.{Gain}
use Rattle.tracker_block_diagonal.specs.Code.Joined.{joined, gains}
use Rattle.tracker_block_diagonal.specs.Code.HalfCorrection.{half_gain, half_floored, half_left, half_right, shifted}
use Rattle.tracker_block_diagonal.proofs.Finite.{both_true, same_finite}
use Rattle.tracker_block_diagonal.proofs.Zeros.{absolute_above}
use Rattle.tracker_block_diagonal.proofs.Blocks.{blocks, alike}
use Rattle.tracker_block_diagonal.proofs.CorrectedHalves.{Fits, floored_fits, all_finite, gain_taken, gain_apart, corrected_blocks}
use Rattle.tracker_block_diagonal.proofs.correction.correct.Goals.{Start}
use Rattle.tracker_block_diagonal.proofs.correction.correct.Goals as goal

-- what owning the argument tells of the second half
fitting : (c : Start) → Fits c.args.h.second
fitting c =
    let g = c.well_formed.0.1.1.1.0.1.1 in
    let t : (x : Float) → fits binary64 x ≡ true → T (fits binary64 x) = λ x e. subst T (sym e) tt in
    record {
      pp = t _ g.0.1;
      pf = t _ g.1.0.1;
      pc = t _ g.1.1.0.1;
      fp = t _ g.1.1.1.0.1;
      ff = t _ g.1.1.1.1.0.1;
      fc = t _ g.1.1.1.1.1.0.1;
      cp = t _ g.1.1.1.1.1.1.0.1;
      cf = t _ g.1.1.1.1.1.1.1.0.1;
      cc = t _ g.1.1.1.1.1.1.1.1.0.1;
    }

-- what is given only where b is true
given : {A : Type 0} (P : A → Type 0) (b : Bool) (v : A) (o : Option A) → o ≡ then_some b v → (b ≡ true → P v) → IfSome o P
given P true v o e f = subst (λ o. IfSome o P) (sym e) (f refl)
given P false v o e f = subst (λ o. IfSome o P) (sym e) tt

pub returns : goal.returns
unfolding innovation_variance joined
returns c = given _ _ _ _ c.then_some.ensures (λ apart.
    let a = c.args.h.first in
    let d = c.args.h.second in
    let noise = c.args.noise in
    let s = plus a.pp noise in
    let k = half_gain a s in
    let f = half_floored a in
    let g = half_floored d in
    let t = half_left f k in
    let o = alike zero in
    let least = ten_to_minus12 in
    let ek : c.half_gain-k.result ≡ k = c.half_gain-k.ensures in
    let ef : c.floor_half-f.result ≡ f = c.floor_half-f.ensures in
    let eg : c.floor_half-g.result ≡ g = c.floor_half-g.ensures in
    let et : c.joseph_left-t.result ≡ t = c.joseph_left-t.ensures ∙ (λ j. half_left (ef j) (ek j)) in
    let ea : c.joseph_right.result ≡ half_right t k noise = c.joseph_right.ensures ∙ (λ j. half_right (et j) (ek j) noise) in
    let eb : c.shift.result ≡ shifted g (times zero noise) = c.shift.ensures ∙ (λ j. shifted (eg j) (times zero noise)) in
    let tests = both_true (le least s) c.is_finite-finite.result apart in
    let up = gain_taken s tests.0 in
    let all =
    all_finite a.pp f k noise
    (sym (λ j. finite (plus (plus (plus (plus (plus s (ef j).pf) (ef j).pc) (et j).pp) (et j).fp) (et j).cp))
    ∙ sym (same_finite _)
    ∙ sym c.is_finite-finite.ensures.value
    ∙ tests.1) in (
      ap (le least) (absolute_above s up) ∙ tests.0,
      ap gains ek ∙ gain_apart a d s up,
      (λ j. blocks (ea j) o o (eb j))
          ∙ sym (corrected_blocks a d k noise all.gain all.row all.column (floored_fits d (fitting (goal.at.returns c).Start)) all.measured)
          ∙ ap (λ (k : Gain). corrected (blocks a o o d) 0 (gains k) noise) (sym ek),
    ))

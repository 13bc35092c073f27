-- `elementary_logarithm::bits::log_at` meets its contract.
use mathlib.Core.Path.{◌≡◌, sym, ap, ◌∙◌}
use Prim.Native.Nat.{ℕ, ◌+◌, ◌-◌, ◌*◌, ◌^◌, ◌≤◌, ◌<◌}
use native.Mathlib.Nat.{le_trans, le_of_eq}
use native.Mathlib.Omega.{arith}
use borrow.Author.Tests.{lt-ltb, le-ltb}
use lib.Ieee.{Float, neg}
use Rattle.ieee754.specs.Binary64.{two_to_minus54}
use Rattle.elementary_fixed_point.specs.Conversion.{scaled}
use Rattle.elementary_logarithm.specs.Steps.{natural, log_two, table_two, common, at_least_one, log_at}
use Rattle.elementary_logarithm.specs.Code.Parts.{sum_from, sum_under}
use Rattle.elementary_logarithm.proofs.Constants.{log_two_is, table_two_is}
use Rattle.elementary_logarithm.proofs.bits.log_at.Goals.{After-natural-h}
use Rattle.elementary_logarithm.proofs.bits.log_at.Goals as goal

-- the constants by their names
under_is : (s p : ℕ) {h : ℕ} → h ≡ natural s → (1073 - p) * 12486629536330718 + (12486629536148167 - h) ≡ sum_under s p
under_is s p {h} e = ap (λ (z : ℕ). (1073 - p) * z + (12486629536148167 - h)) (sym log_two_is) ∙ ap (λ (z : ℕ). (1073 - p) * log_two + (z - h)) (sym table_two_is) ∙ ap (λ (z : ℕ). (1073 - p) * log_two + (table_two - z)) e

from_is : (s p : ℕ) {h : ℕ} → h ≡ natural s → (p - 1074) * 12486629536330718 + h ≡ sum_from s p
from_is s p {h} e = ap (λ (z : ℕ). (p - 1074) * z + h) (sym log_two_is) ∙ ap (λ (z : ℕ). (p - 1074) * log_two + z) e

below_is : (s p : ℕ) {d : ℕ} {v : Float} → p < 1074 → d ≡ sum_under s p → v ≡ scaled (at_least_one (common d)) two_to_minus54 → neg v ≡ log_at s p
unfolding log_at
below_is s p l ed ev = rw (lt-ltb p 1074 l) (ap neg (ev ∙ ap (λ (z : ℕ). scaled (at_least_one (common z)) two_to_minus54) ed))

above_is : (s p : ℕ) {d : ℕ} {v : Float} → 1074 ≤ p → d ≡ sum_from s p → v ≡ scaled (at_least_one (common d)) two_to_minus54 → v ≡ log_at s p
unfolding log_at
above_is s p l ed ev = rw (le-ltb p 1074 l) (ev ∙ ap (λ (z : ℕ). scaled (at_least_one (common z)) two_to_minus54) ed)

small : (c : After-natural-h) → c.natural-h.result ≤ 12486629536148167
small c = le_trans c.natural-h.ensures.1 (le_of_eq table_two_is)

pub overflow_sub-h : goal.overflow_sub-h
overflow_sub-h c = small (goal.at.overflow_sub-h c).After-natural-h

pub returns-then-p-lt1074 : goal.returns-then-p-lt1074
returns-then-p-lt1074 c =
    below_is c.args.s c.args.p c.if-p-lt1074.true (under_is c.args.s c.args.p c.natural-h.ensures.0) c.far_common.ensures

pub overflow_add-p-2 : goal.overflow_add-p-2
overflow_add-p-2 c = record { fits = go c.args.p c.natural-h.result c.requires.2 (small (goal.at.overflow_add-p-2 c).After-natural-h) }
  where
    go : (p h : ℕ) → p ≤ 2097 → h ≤ 12486629536148167 → (p - 1074) * 12486629536330718 + h < 2 ^ 64
    go p h a b = omega arith

pub returns : goal.returns
returns c =
    above_is c.args.s c.args.p c.if-p-lt1074.false (from_is c.args.s c.args.p c.natural-h.ensures.0) c.far_common-2.ensures

-- `series::arctangent` meets its contract: its tables are the rule's, by computation.
use mathlib.Core.Path.{◌≡◌, sym, ap, ◌∙◌}
use Prim.Native.Nat.{ℕ, ◌-◌}
use native.Mathlib.Nat.{le_trans, le_of_eq}
use Rattle.elementary_fixed_point.specs.Product.{tabulate}
use Rattle.elementary_arctangent.specs.Steps.{coefficients, series}
use Rattle.elementary_arctangent.proofs.Tables.{added_below, subtracted_below}
use Rattle.elementary_arctangent.proofs.SeriesBound.{plus_at, minus_at, minus_le, series_steps, fourth_asked}
use Rattle.elementary_arctangent.proofs.series.arctangent.Goals.{After-high_product-n}
use Rattle.elementary_arctangent.proofs.series.arctangent.Goals as goal

less : {a b c d : ℕ} → a ≡ b → c ≡ d → a - c ≡ b - d
less {a} {b} {c} {d} p q = ap (λ (z : ℕ). z - c) p ∙ ap (λ (z : ℕ). b - z) q

steps : (c : After-high_product-n) → let x = c.args.x in (c.high_product-p.result ≡ plus_at x) × (c.high_product-n.result ≡ minus_at x)
unfolding coefficients tabulate
steps c =
    let k4 = c.before in
    let b = k4.before in
    let a = b.before in
    let k3 = a.before in
    let k2 = k3.before in
    let k1 = k2.before in
    series_steps k1.args.x _ _ _ _ _ _ _ k1.high_product-x2.ensures k2.high_product-x3.ensures k3.high_product-x4.ensures a.chain-a.ensures b.chain-b.ensures k4.high_product-p.ensures c.high_product-n.ensures

pub chain-a-requires : goal.chain-a-requires
unfolding coefficients tabulate
chain-a-requires c = record { w_bound = fourth_asked c.args.x _ _ c.requires c.high_product-x2.ensures c.high_product-x4.ensures; t = added_below }

pub chain-b-requires : goal.chain-b-requires
unfolding coefficients tabulate
chain-b-requires c = record { w_bound = fourth_asked c.args.x _ _ c.requires c.high_product-x2.ensures c.high_product-x4.ensures; t = subtracted_below }

pub overflow_sub-result : goal.overflow_sub-result
overflow_sub-result c = le_trans (le_of_eq (steps (goal.at.overflow_sub-result c).After-high_product-n).1) (le_trans (minus_le c.args.x c.requires) (le_of_eq (sym (steps (goal.at.overflow_sub-result c).After-high_product-n).0)))

pub returns : goal.returns
unfolding series
returns c = less (steps (goal.at.returns c).After-high_product-n).0 (steps (goal.at.returns c).After-high_product-n).1

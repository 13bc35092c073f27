-- `elementary_logarithm::series::natural` meets its contract: its table is the rule's, by computation.
use mathlib.Core.Path.{◌≡◌, ap, ◌∙◌}
use Prim.Native.Nat.{ℕ, ◌/◌, ◌^◌, ◌≤◌, ◌<◌}
use native.Mathlib.Nat.{le_trans, le_of_eq, lt_of_le_of_lt}
use lib.Dec.{lit<}
use Rattle.elementary_fixed_point.specs.Product.{hi, horner, tabulate}
use Rattle.elementary_fixed_point.proofs.Enclosures.{hi_mono}
use Rattle.elementary_logarithm.specs.Steps.{argument, table, natural_at, natural}
use Rattle.elementary_logarithm.proofs.SeriesBound.{table_below, natural_upto}
use Rattle.elementary_logarithm.proofs.series.natural.Goals as goal

square : {x w : ℕ} → x ≤ 6148914691236517205 → w ≡ hi x x → w < 2 ^ 63
square {x} h e = lt_of_le_of_lt (le_trans (le_of_eq e) (hi_mono x x 6148914691236517205 6148914691236517205 h h)) (lit< tt)

steps : (x : ℕ) {w k r : ℕ} → w ≡ hi x x → k ≡ horner w table → r ≡ hi x k → r / 2 ^ 7 ≡ natural_at x
unfolding natural_at
steps x e f g = ap (λ (z : ℕ). z / 2 ^ 7) (g ∙ ap (hi x) (f ∙ ap (λ (z : ℕ). horner z table) e))

natural_is : (s : ℕ) {x : ℕ} → x ≡ argument s → natural_at x ≡ natural s
unfolding natural
natural_is s e = ap natural_at e

pub chain-c-requires : goal.chain-c-requires
unfolding table tabulate
chain-c-requires c = record { w_bound = square c.argument-x.ensures.1 c.high_product-w.ensures; t = table_below }

pub returns : goal.returns
unfolding table tabulate
returns c =
    let e : c.high_product.result / 2 ^ 7 ≡ natural_at c.argument-x.result = steps c.argument-x.result c.high_product-w.ensures c.chain-c.ensures c.high_product.ensures in
    (e ∙ natural_is c.args.s c.argument-x.ensures.0, le_trans (le_of_eq e) (natural_upto c.argument-x.result c.argument-x.ensures.1))

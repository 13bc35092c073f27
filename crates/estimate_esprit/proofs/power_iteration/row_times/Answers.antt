-- `row_times`: the next term is that of numbers k + 1.
use Rattle.std.proofs.Common.{◌≡◌, ◌+◌, ◌<◌, ◌∙◌, ap, length, take, drop, length-drop, length-take-le, arith, rules}
use Rattle.std.proofs.lemmas.List.{length_push}
use Rattle.std.proofs.lemmas.Slice.Zip.{zip_turn}
use Rattle.std.specs.Iterator.Adapters.{zip_second}
use Rattle.std.specs.Slice.Iter.{iter_rest}
use lib.Ieee.{nan, binary64}
use Rattle.sums.specs.declared.complex.Complex.{Complex}
use Rattle.sums.specs.Ascending.{sum_from}
use Rattle.sums.specs.Complex.{Cx, add_c, mul_c}
use Rattle.sums.specs.Code.Numbers.{parts, number}
use Rattle.sums.proofs.Adding.{sum_next}
use Rattle.estimate_esprit.proofs.VectorLaws.{number_later}
use Rattle.estimate_esprit.proofs.power_iteration.row_times.Goals as goal

pub loop-r-init : goal.loop-r-init
unfolding sum_from
loop-r-init c = c.mul-sum.ensures

pub loop-r-preserved : goal.loop-r-preserved
loop-r-preserved c =
    let row = c.args.row.now in
    let u = c.args.u.now in
    let k = length c.loop-r.yielded in
    let second : iter_rest (zip_second c.zip-r-items.result) ≡ take 9 (drop 1 u) = c.zip-r-items.ensures.second.0 in
    let t = zip_turn (take 9 (drop 1 row)) (take 9 (drop 1 u)) c.loop-r.yielded c.into_iter-r-iterator.result c.loop-r.r-iterator c.next.new.self _ (search rules) (ap (λ z. iter_rest (zip_second z)) c.into_iter-r-iterator.ensures.into_iter_gives ∙ second) c.loop-r.yielded_by _ c.in-Some.is c.next.ensures.steps in
    let none : Complex = record { re = nan; im = nan } in
    let lt : k < 9 = omega (arith, length-take-le 9 (drop 1 u) (omega (arith, length-drop 1 u))) in
    let term =
    c.mul.ensures
    ∙ ap (λ (z : Cx). mul_c binary64 z (parts c.in-Some.field-0-1.now)) (ap parts (t.2 none) ∙ number_later row k lt)
    ∙ ap (mul_c binary64 (number row (k + 1))) (ap parts (t.3 none) ∙ number_later u k lt) in
    rw (length_push c.loop-r.yielded (c.in-Some.field-0-0, c.in-Some.field-0-1))
    (c.add-sum.ensures ∙ sum_next (add_c binary64) _ _ k c.loop-r.invariant term)

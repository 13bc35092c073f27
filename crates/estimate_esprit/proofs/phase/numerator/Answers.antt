-- `numerator`: the next term is that of numbers k and k + 1.
use Rattle.std.proofs.Common.{take, ◌≡◌, ◌∙◌, ap, length, drop, length-drop, length-take-le, refl, arith, rules}
use Rattle.std.proofs.lemmas.List.{length_push}
use Rattle.std.proofs.lemmas.Slice.Zip.{zip_turn, zip_end}
use Rattle.std.specs.Iterator.Adapters.{zip_second}
use Rattle.std.specs.Slice.Iter.{iter_rest}
use lib.Ieee.{nan, binary64}
use Rattle.sums.specs.declared.complex.Complex.{Complex}
use Rattle.sums.specs.Ascending.{sum_from}
use Rattle.sums.specs.Complex.{Cx, add_c, mul_c, conj}
use Rattle.sums.specs.Code.Numbers.{parts, number}
use Rattle.sums.proofs.Adding.{sum_next, sum_end}
use Rattle.estimate_esprit.proofs.VectorLaws.{number_later, lag_one_is}
use Rattle.estimate_esprit.proofs.phase.numerator.Goals as goal

pub loop-z-init : goal.loop-z-init
unfolding sum_from
loop-z-init c = refl

pub loop-z-preserved : goal.loop-z-preserved
loop-z-preserved c =
    let u = c.args.u.now in
    let second : iter_rest (zip_second c.zip-z-items.result) ≡ take 9 (drop 1 u) = c.zip-z-items.ensures.second.0 in
    let t = zip_turn u (take 9 (drop 1 u)) c.loop-z.yielded c.into_iter-z-iterator.result c.loop-z.z-iterator c.next.new.self _ (search rules) (ap (λ z. iter_rest (zip_second z)) c.into_iter-z-iterator.ensures.into_iter_gives ∙ second) c.loop-z.yielded_by _ c.in-Some.is c.next.ensures.steps in
    let k = length c.loop-z.yielded in
    let none : Complex = record { re = nan; im = nan } in
    let term =
    c.mul.ensures
    ∙ ap (λ (z : Cx). mul_c binary64 z (parts c.in-Some.field-0-1.now)) (c.conjugate.ensures ∙ ap (λ (z : Complex). conj (parts z)) (t.2 none))
    ∙ ap (mul_c binary64 (conj (number u k))) (ap parts (t.3 none) ∙ number_later u k (omega (arith, length-drop 1 u))) in
    rw (length_push c.loop-z.yielded (c.in-Some.field-0-0, c.in-Some.field-0-1))
    (c.add-sum.ensures ∙ sum_next (add_c binary64) _ _ (length c.loop-z.yielded) c.loop-z.invariant term)

pub returns : goal.returns
returns c =
    let u = c.args.u.now in
    let second : iter_rest (zip_second c.zip-z-items.result) ≡ take 9 (drop 1 u) = c.zip-z-items.ensures.second.0 in
    let e = zip_end u (take 9 (drop 1 u)) c.loop-z.yielded c.into_iter-z-iterator.result c.loop-z.z-iterator c.next.new.self _ (search rules) (ap (λ z. iter_rest (zip_second z)) c.into_iter-z-iterator.ensures.into_iter_gives ∙ second) c.loop-z.yielded_by c.in-None.is c.next.ensures.steps in
    let l = length-take-le 9 (drop 1 u) (omega (arith, length-drop 1 u)) in
    sum_end (add_c binary64) _ _ (length c.loop-z.yielded) 9 c.loop-z.invariant (omega (arith, e, l)) (omega (arith, e, l)) ∙ lag_one_is u

-- `slid`: each call makes one lag.
use Rattle.std.proofs.Common.{◌≡◌, ◌+◌, ◌-◌, cond, eqb, ap, ◌∙◌, ne_eqb, arith, rules}
use lib.Ieee.{nan}
use Rattle.sums.specs.Code.Numbers.{parts, number}
use Rattle.sums.proofs.Numbers.{made}
use Rattle.sequences.proofs.Choices.{cond_no}
use Rattle.estimate_correlation.proofs.slid.Goals as goal

pub returns-clause-later : goal.returns-clause-later
returns-clause-later c =
    λ i h.
    let w = c.args.window.now in
    let latest = parts c.args.latest in
    let lag = made _ (λ k y. parts y ≡ cond (eqb k 0) latest (number w (k - 1))) _ 10 (λ k y q h t. search rules) c.from_fn.result (record { re = nan; im = nan }) c.from_fn.ensures.items.each (i + 1) (omega arith) in
    let e : i + 1 - 1 ≡ i = omega arith in
    lag ∙ cond_no latest (number w (i + 1 - 1)) (ne_eqb (i + 1) 0 (λ z. omega arith)) ∙ ap (number w) e

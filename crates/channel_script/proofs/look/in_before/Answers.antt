-- `in_before` meets its contract. Assumes nothing.
use Rattle.std.proofs.Common.{ap, ◌∙◌, ℕ, arith}
use Rattle.channel_script.specs.Code.Letters.{found}
use Rattle.channel_script.specs.Code.Looking.{answer_names}
use Rattle.channel_script.proofs.LookLaws.{small_is, small_none}
use Rattle.channel_script.proofs.look.in_before.Goals as goal

pub returns : goal.returns
returns c =
    let a = c.args in
    let h = rw c.in_ok-checked_sub.was at c.checked_sub.ensures in
    c.in_answer.ensures ∙ ap (λ (b : ℕ). found b (answer_names a.a)) h.1 ∙ small_is a.letter (answer_names a.a) h.0

pub returns-in_err-checked_sub : goal.returns-in_err-checked_sub
returns-in_err-checked_sub c =
    let a = c.args in
    let h = rw c.in_err-checked_sub.was at c.checked_sub.ensures in
    c.from_residual.ensures ∙ small_none a.letter (answer_names a.a) (omega (arith, h))

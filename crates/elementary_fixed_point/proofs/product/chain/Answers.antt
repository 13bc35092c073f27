-- `product::chain` meets its contract.
use Rattle.std.proofs.Common.{◌≡◌, ℕ, ◌^◌, ◌<◌, T, List, sym, ap, ◌∙◌, subst}
use Rattle.std.proofs.lemmas.List.{nil_from_length}
use Rattle.std.specs.List.{push}
use Rattle.elementary_fixed_point.specs.Product.{horner}
use Rattle.elementary_fixed_point.specs.Code.Bounds.{below}
use Rattle.elementary_fixed_point.proofs.Chains.{horner_onto, onto_none, onto_last, below_last}
use Rattle.elementary_fixed_point.proofs.product.chain.Goals as goal

all : (w : ℕ) (left c : List ℕ) → left ≡ c → T (below (2 ^ 63) c) → (horner_onto w 0 left ≡ horner w c) × T (below (2 ^ 63) left)
all w left c e t = (ap (horner_onto w 0) e ∙ onto_none w c, subst (λ z. T (below (2 ^ 63) z)) (sym e) t)

-- the entries behind and before the last one
last : (left cs : List ℕ) (c : ℕ) → left ≡ push cs c → T (below (2 ^ 63) left) → T (below (2 ^ 63) cs) × (c < 2 ^ 63)
last left cs c e t = below_last (2 ^ 63) c cs (subst (λ z. T (below (2 ^ 63) z)) e t)

pub loop-coefficient-init : goal.loop-coefficient-init
loop-coefficient-init c =
    all c.args.w _ c.args.c.now
    (ap (λ z. z.iter.rest.now) c.into_iter-coefficient-iterator.ensures.into_iter_gives ∙ ap (λ z. z.rest.now) c.rev-coefficient-items.ensures.source ∙ c.iter.ensures.rest) c.requires.t

pub horner_step-p-requires : goal.horner_step-p-requires
horner_step-p-requires c = ((last _ _ _ c.in-Some.ensures.steps c.loop-coefficient.invariant.1).1, c.requires.w_bound)

pub loop-coefficient-preserved : goal.loop-coefficient-preserved
loop-coefficient-preserved c =
    let w = c.args.w in let p = c.loop-coefficient.p in let x = c.in-Some.coefficient.now in (
      ap (λ z. horner_onto w z c.next.new.self.iter.rest.now) c.horner_step-p.ensures ∙ sym (onto_last w p x _) ∙ ap (horner_onto w p) (sym c.in-Some.ensures.steps) ∙ c.loop-coefficient.invariant.0,
      (last _ _ _ c.in-Some.ensures.steps c.loop-coefficient.invariant.1).0,
    )

pub returns : goal.returns
unfolding horner_onto
returns c = ap (horner_onto c.args.w c.loop-coefficient.p) (sym (nil_from_length _ c.in-None.ensures.steps.0)) ∙ c.loop-coefficient.invariant.0

-- Module 2: a remainder by the turn as the code holds it. Definitions only.
use Rattle.std.specs.Prelude.{ℕ, ◌^◌}
use Rattle.elementary_reduction.specs.declared.rest.Rest.{Rest}
use Rattle.elementary_reduction.specs.Code.Limbs.{limbs, RestLimbs}

abbrev pub value : Rest → ℕ
value r = limbs (2 ^ 41) r.w.w0 r.w.w1 r.w.w2 r.w.w3

abbrev pub Held : ℕ → Rest → Type 0
Held v r = RestLimbs v r.w.w0 r.w.w1 r.w.w2 r.w.w3

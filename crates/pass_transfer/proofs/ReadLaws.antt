-- What the answer of a read brings.
use mathlib.Core.Path.{◌≡◌, refl, sym, subst}
use mathlib.Core.Bool.{Bool, true, false, cond}
use Prim.Native.Nat.{ℕ, ◌≤◌, ◌<◌, min}
use native.Mathlib.Omega.{arith}
use lib.Dec.{eqb}
use borrow.Author.Tests.{eqb-false}
use Rattle.std.specs.Prelude.{Result, Ok, Err, Option, Some, None}
use Rattle.std.specs.declared.io.Error.{Error}
use Rattle.pass_transfer.specs.Code.Standing.{got_of, Brought}

brought_of : (z : Result ℕ Error) (most : ℕ) → Brought (got_of z most) most
unfolding got_of Brought
brought_of (Ok k) most = go (eqb (min k most) 0) refl
  where
    go : (b : Bool) → eqb (min k most) 0 ≡ b → Brought (Ok (cond b None (Some (min k most)))) most
    go true h = tt
    go false h = (let n : min k most ≡ 0 → ⊥ = eqb-false _ _ h in omega arith, omega arith)
brought_of (Err e) most = tt

pub bytes_within : (g : Result (Option ℕ) Error) (most n : ℕ) → Brought g most → g ≡ Ok (Some n) → (0 < n) × (n ≤ most)
unfolding Brought
bytes_within g most n h e = subst (λ (x : Result (Option ℕ) Error). Brought x most) e h

pub brought : (g : Result (Option ℕ) Error) (z : Result ℕ Error) (most n : ℕ) → g ≡ got_of z most → most ≡ n → Brought g n
brought g z most n e m = subst (λ (k : ℕ). Brought g k) m (subst (λ (x : Result (Option ℕ) Error). Brought x most) (sym e) (brought_of z most))

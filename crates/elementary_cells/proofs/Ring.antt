-- Sums and products of signed whole numbers, as pairs that are never reduced: a commutative semiring, whose laws hold as equations of pairs.
use mathlib.Core.Path.{◌≡◌, sym, ap, ◌∙◌}
use Prim.Native.Nat.{ℕ, ◌+◌, ◌*◌}
use native.Mathlib.Omega.{arith}
use Rattle.elementary_cells.specs.Polynomials.{Signed, at}

unfoldable pub added : Signed → Signed → Signed
added x y = at (x.plus + y.plus) (x.minus + y.minus)

unfoldable pub times : Signed → Signed → Signed
times x y = at (x.plus * y.plus + x.minus * y.minus) (x.plus * y.minus + x.minus * y.plus)

unfoldable pub turned : Signed → Signed
turned x = at x.minus x.plus

unfoldable pub stretched : ℕ → Signed → Signed
stretched k x = at (k * x.plus) (k * x.minus)

unfoldable pub nat : ℕ → Signed
nat k = at k 0

unfoldable pub less : Signed
less = at 0 1

pub pair : {a b c d : ℕ} → a ≡ c → b ≡ d → at a b ≡ at c d
pair {a} {b} {c} {d} e f = ap (λ (t : ℕ). at t b) e ∙ ap (λ (t : ℕ). at c t) f

pub times_comm : (x y : Signed) → times x y ≡ times y x
unfolding times
times_comm x y = pair (go x.plus x.minus y.plus y.minus) (on x.plus x.minus y.plus y.minus)
  where
    go : (a b c d : ℕ) → a * c + b * d ≡ c * a + d * b
    go a b c d = omega arith

    on : (a b c d : ℕ) → a * d + b * c ≡ c * b + d * a
    on a b c d = omega arith

pub times_assoc : (x y z : Signed) → times (times x y) z ≡ times x (times y z)
unfolding times
times_assoc x y z = pair (go x.plus x.minus y.plus y.minus z.plus z.minus) (go x.plus x.minus y.plus y.minus z.minus z.plus)
  where
    go : (a b c d e f : ℕ) → (a * c + b * d) * e + (a * d + b * c) * f ≡ a * (c * e + d * f) + b * (c * f + d * e)
    go a b c d e f = omega arith

pub times_left_comm : (x y z : Signed) → times x (times y z) ≡ times y (times x z)
times_left_comm x y z = sym (times_assoc x y z) ∙ ap (λ (t : Signed). times t z) (times_comm x y) ∙ times_assoc y x z

pub times_plus : (x y z : Signed) → times x (added y z) ≡ added (times x y) (times x z)
unfolding times added
times_plus x y z = pair (go x.plus x.minus y.plus y.minus z.plus z.minus) (go x.plus x.minus y.minus y.plus z.minus z.plus)
  where
    go : (a b c d e f : ℕ) → a * (c + e) + b * (d + f) ≡ a * c + b * d + (a * e + b * f)
    go a b c d e f = omega arith

pub plus_comm : (x y : Signed) → added x y ≡ added y x
unfolding added
plus_comm x y = pair (go x.plus y.plus) (go x.minus y.minus)
  where
    go : (a b : ℕ) → a + b ≡ b + a
    go a b = omega arith

pub plus_assoc : (x y z : Signed) → added (added x y) z ≡ added x (added y z)
unfolding added
plus_assoc x y z = pair (go x.plus y.plus z.plus) (go x.minus y.minus z.minus)
  where
    go : (a b c : ℕ) → a + b + c ≡ a + (b + c)
    go a b c = omega arith

pub plus_left_comm : (x y z : Signed) → added x (added y z) ≡ added y (added x z)
plus_left_comm x y z = sym (plus_assoc x y z) ∙ ap (λ (t : Signed). added t z) (plus_comm x y) ∙ plus_assoc y x z

pub stretched_is : (k : ℕ) (x : Signed) → stretched k x ≡ times (nat k) x
unfolding stretched times nat
stretched_is k x = pair (go k x.plus x.minus) (go k x.minus x.plus)
  where
    go : (k a b : ℕ) → k * a ≡ k * a + 0 * b
    go k a b = omega arith

pub turned_is : (x : Signed) → turned x ≡ times less x
unfolding turned times less
turned_is x = pair (go x.plus x.minus) (go x.minus x.plus)
  where
    go : (a b : ℕ) → b ≡ 0 * a + 1 * b
    go a b = omega arith

pub nat_times : (k m : ℕ) → nat (k * m) ≡ times (nat k) (nat m)
unfolding nat times
nat_times k m = pair (go k m) (on k m)
  where
    go : (k m : ℕ) → k * m ≡ k * m + 0 * 0
    go k m = omega arith

    on : (k m : ℕ) → 0 ≡ k * 0 + 0 * m
    on k m = omega arith

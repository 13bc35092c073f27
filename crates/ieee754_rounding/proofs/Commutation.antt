-- Products and sums commute, for every pair of floats and every format.
use mathlib.Core.Path.{◌≡◌, refl, ap, ◌∙◌}
use mathlib.Core.Bool.{Bool, true, false, not, ◌&&◌, cond}
use Prim.Native.Nat.{ℕ, ◌*◌, ◌-◌}
use native.Mathlib.Nat.{mul_comm, add_comm}
use native.Mathlib.Omega.{arith}
use lib.Dec.{ltb, eqb}
use borrow.Author.Tests.{ltb-true, ltb-false}
use lib.Ieee.{Float, nan, inf, fin, Format, up, down, unlike, round, sum, add, mul}

unlike_comm : (s t : Bool) → unlike s t ≡ unlike t s
unlike_comm true true = refl
unlike_comm true false = refl
unlike_comm false true = refl
unlike_comm false false = refl

pub mul_commutes : (f : Format) (x y : Float) → mul f x y ≡ mul f y x
unfolding mul
mul_commutes f nan nan = refl
mul_commutes f nan (inf t) = refl
mul_commutes f nan (fin t n d) = refl
mul_commutes f (inf s) nan = refl
mul_commutes f (inf s) (inf t) = ap inf (unlike_comm s t)
mul_commutes f (inf s) (fin t n d) = ap (λ (b : Bool). cond (eqb n 0) nan (inf b)) (unlike_comm s t)
mul_commutes f (fin s m e) nan = refl
mul_commutes f (fin s m e) (inf t) = ap (λ (b : Bool). cond (eqb m 0) nan (inf b)) (unlike_comm s t)
mul_commutes f (fin s m e) (fin t n d) = rw (unlike_comm s t, mul_comm (m * up e) (n * up d), mul_comm (down e) (down d))

-- neither is below the other
pub no_difference : (a b : ℕ) → ltb a b ≡ false → ltb b a ≡ false → a - b ≡ 0
no_difference a b p q = omega (arith, ltb-false a b p, ltb-false b a q)

-- signs that differ; p and q are the two tests
swapped : (f : Format) (s : Bool) (a b c : ℕ) (p q : Bool) → ltb a b ≡ p → ltb b a ≡ q
    → cond p (round f (not s) (b - a) c) (round f (s && q) (a - b) c) ≡ cond q (round f s (a - b) c) (round f (not s && p) (b - a) c)
swapped f s a b c true true ep eq = absurd (omega (arith, ltb-true a b ep, ltb-true b a eq))
swapped f true a b c true false ep eq = refl
swapped f false a b c true false ep eq = refl
swapped f true a b c false true ep eq = refl
swapped f false a b c false true ep eq = refl
swapped f true a b c false false ep eq = rw (no_difference a b ep eq, no_difference b a eq ep)
swapped f false a b c false false ep eq = rw (no_difference a b ep eq, no_difference b a eq ep)

sum_commutes : (f : Format) (s t : Bool) (a b c : ℕ) → sum f s a t b c ≡ sum f t b s a c
unfolding sum
sum_commutes f true true a b c = rw (add_comm a b)
sum_commutes f true false a b c = swapped f true a b c (ltb a b) (ltb b a) refl refl
sum_commutes f false true a b c = swapped f false a b c (ltb a b) (ltb b a) refl refl
sum_commutes f false false a b c = rw (add_comm a b)

pub add_commutes : (f : Format) (x y : Float) → add f x y ≡ add f y x
unfolding add
add_commutes f nan nan = refl
add_commutes f nan (inf t) = refl
add_commutes f nan (fin t n d) = refl
add_commutes f (inf s) nan = refl
add_commutes f (inf true) (inf true) = refl
add_commutes f (inf true) (inf false) = refl
add_commutes f (inf false) (inf true) = refl
add_commutes f (inf false) (inf false) = refl
add_commutes f (inf s) (fin t n d) = refl
add_commutes f (fin s m e) nan = refl
add_commutes f (fin s m e) (inf t) = refl
add_commutes f (fin s m e) (fin t n d) =
    sum_commutes f s t (m * up e * down d) (n * up d * down e) (down e * down d) ∙ rw (mul_comm (down e) (down d))

-- The order of floats, `le`: any two that are no NaN are ordered, it is transitive, and turning both signs turns it. A finite value is taken
-- apart into what it has above zero and what it has below. The same at every format. Assumes nothing.
use mathlib.Core.Path.{◌≡◌, refl, sym, subst}
use mathlib.Core.Logic.{◌⊎◌, inl, inr}
use mathlib.Core.Bool.{Bool, true, false, not, ◌&&◌, ◌||◌, cond}
use Prim.Native.Nat.{ℕ, ◌+◌, ◌*◌, ◌≤◌, ◌<◌}
use native.Mathlib.Nat.{le_of_eq, mul-le-mul_right, le_of_mul-le-mul_right}
use native.Mathlib.Omega.{arith}
use lib.IntN.{ℤ}
use lib.Dec.{T, ltb, eqb, ltb→lt, lt→ltb, nltb→le, eqb→eq}
use lib.Ieee.{Float, nan, inf, fin, up, down, below, level, neg, lt, le, eq, is_nan}
use lib.Ieee.Fits.{down_pos, and_i, and_l, and_r, eq→eqb}
use lib.Ieee.Scale.{finite}
use Rattle.ieee754_rounding.proofs.Comparison.{lt_or_le}

-- what a number of the sign s and the size a has above zero, and below
abbrev pub over : Bool → ℕ → ℕ
over s a = cond s 0 a

abbrev pub under : Bool → ℕ → ℕ
under s a = cond s a 0

or_l : (a b : Bool) → T a → T (a || b)
or_l true b t = tt
or_l false b t = absurd t

or_r : (a b : Bool) → T b → T (a || b)
or_r true b t = tt
or_r false b t = t

or_split : (a b : Bool) → T (a || b) → T a ⊎ T b
or_split true b t = inl tt
or_split false b t = inr t

-- ±a ≤ ±b
abbrev ordered : Bool → ℕ → Bool → ℕ → Bool
ordered s a t b = below s a t b || level s a t b

ordered_of : (s : Bool) (a : ℕ) (t : Bool) (b : ℕ) → over s a + under t b ≤ over t b + under s a → T (ordered s a t b)
ordered_of false a false b h = elim (lt_or_le a b) [
  | inl l ↦ or_l (ltb a b) (eqb a b && true) (lt→ltb a b l)
  | inr l ↦ let e : a ≡ b = omega arith in or_r (ltb a b) (eqb a b && true) (and_i (eqb a b) true (eq→eqb e) tt)
]
ordered_of false a true b h =
    let e : a ≡ b = omega arith in
    let z : a ≡ 0 = omega arith in
    and_i (eqb a b) (eqb a 0) (eq→eqb e) (eq→eqb z)
ordered_of true a false b h = elim (lt_or_le 0 (a + b)) [
  | inl l ↦ or_l (ltb 0 (a + b)) (eqb a b && eqb a 0) (lt→ltb 0 (a + b) l)
  | inr l ↦
      let e : a ≡ b = omega arith in
      let z : a ≡ 0 = omega arith in
      or_r (ltb 0 (a + b)) (eqb a b && eqb a 0) (and_i (eqb a b) (eqb a 0) (eq→eqb e) (eq→eqb z))
]
ordered_of true a true b h = elim (lt_or_le b a) [
  | inl l ↦ or_l (ltb b a) (eqb a b && true) (lt→ltb b a l)
  | inr l ↦ let e : a ≡ b = omega arith in or_r (ltb b a) (eqb a b && true) (and_i (eqb a b) true (eq→eqb e) tt)
]

of_ordered : (s : Bool) (a : ℕ) (t : Bool) (b : ℕ) → T (ordered s a t b) → over s a + under t b ≤ over t b + under s a
of_ordered false a false b h = elim (or_split (ltb a b) (eqb a b && true) h) [
  | inl l ↦ let k : a < b = ltb→lt a b l in omega arith
  | inr l ↦ let k : a ≡ b = eqb→eq a b (and_l (eqb a b) true l) in omega arith
]
of_ordered false a true b h =
    let e : a ≡ b = eqb→eq a b (and_l (eqb a b) (eqb a 0) h) in
    let z : a ≡ 0 = eqb→eq a 0 (and_r (eqb a b) (eqb a 0) h) in
    omega arith
of_ordered true a false b h = omega arith
of_ordered true a true b h = elim (or_split (ltb b a) (eqb a b && true) h) [
  | inl l ↦ let k : b < a = ltb→lt b a l in omega arith
  | inr l ↦ let k : a ≡ b = eqb→eq a b (and_l (eqb a b) true l) in omega arith
]

-- ---- two finite values
pub le_of : (s : Bool) (m : ℕ) (e : ℤ) (t : Bool) (n : ℕ) (d : ℤ)
    → over s (m * up e) * down d + under t (n * up d) * down e ≤ over t (n * up d) * down e + under s (m * up e) * down d
    → T (le (fin s m e) (fin t n d))
unfolding le lt eq
le_of s m e t n d h = ordered_of s (m * up e * down d) t (n * up d * down e) (spread s t (m * up e) (down d) (n * up d) (down e) h)
  where
    spread : (s t : Bool) (a c b k : ℕ) → over s a * c + under t b * k ≤ over t b * k + under s a * c → over s (a * c) + under t (b * k) ≤ over t (b * k) + under s (a * c)
    spread true true a c b k h = omega arith
    spread true false a c b k h = omega arith
    spread false true a c b k h = omega arith
    spread false false a c b k h = omega arith

pub of_le : (s : Bool) (m : ℕ) (e : ℤ) (t : Bool) (n : ℕ) (d : ℤ) → T (le (fin s m e) (fin t n d))
    → over s (m * up e) * down d + under t (n * up d) * down e ≤ over t (n * up d) * down e + under s (m * up e) * down d
unfolding le lt eq
of_le s m e t n d h = gather s t (m * up e) (down d) (n * up d) (down e) (of_ordered s (m * up e * down d) t (n * up d * down e) h)
  where
    gather : (s t : Bool) (a c b k : ℕ) → over s (a * c) + under t (b * k) ≤ over t (b * k) + under s (a * c) → over s a * c + under t b * k ≤ over t b * k + under s a * c
    gather true true a c b k h = omega arith
    gather true false a c b k h = omega arith
    gather false true a c b k h = omega arith
    gather false false a c b k h = omega arith

le_infinity : (s : Bool) → T (le (inf s) (inf s))
unfolding le lt eq
le_infinity true = tt
le_infinity false = tt

pub le_refl : (x : Float) → T (not (is_nan x)) → T (le x x)
le_refl nan h = absurd (unfold is_nan in h)
le_refl (inf s) h = le_infinity s
le_refl (fin s m e) h = le_of s m e s m e (le_of_eq refl)

pub lt_le : (x y : Float) → T (lt x y) → T (le x y)
unfolding le
lt_le x y h = or_l (lt x y) (eq x y) h

-- ---- infinities, at either end
pub lowest : (x : Float) → T (not (is_nan x)) → T (le (inf true) x)
unfolding is_nan le lt eq
lowest nan h = absurd h
lowest (inf true) h = tt
lowest (inf false) h = tt
lowest (fin s m e) h = tt

pub highest : (x : Float) → T (not (is_nan x)) → T (le x (inf false))
unfolding is_nan le lt eq
highest nan h = absurd h
highest (inf true) h = tt
highest (inf false) h = tt
highest (fin s m e) h = tt

-- ---- ordered values are no NaN
pub left_number : (x y : Float) → T (le x y) → T (not (is_nan x))
unfolding is_nan le lt eq
left_number nan y h = h
left_number (inf s) y h = tt
left_number (fin s m e) y h = tt

pub right_number : (x y : Float) → T (le x y) → T (not (is_nan y))
unfolding is_nan le lt eq
right_number nan y h = absurd h
right_number (inf s) nan h = h
right_number (fin s m e) nan h = h
right_number (inf s) (inf t) h = tt
right_number (fin s m e) (inf t) h = tt
right_number (inf s) (fin t n d) h = tt
right_number (fin s m e) (fin t n d) h = tt

-- ---- of any two numbers one is at most the other
other_way : (s : Bool) (a : ℕ) (t : Bool) (b : ℕ) → T (not (below s a t b)) → over t b + under s a ≤ over s a + under t b
other_way false a false b h = let k : b ≤ a = nltb→le a b h in omega arith
other_way false a true b h = omega arith
other_way true a false b h = let k : a + b ≤ 0 = nltb→le 0 (a + b) h in omega arith
other_way true a true b h = let k : a ≤ b = nltb→le b a h in omega arith

pub le_of_not_lt : (x y : Float) → T (not (is_nan x)) → T (not (is_nan y)) → T (not (lt x y)) → T (le y x)
unfolding is_nan le lt eq
le_of_not_lt nan y p q h = absurd p
le_of_not_lt (inf s) nan p q h = absurd q
le_of_not_lt (fin s m e) nan p q h = absurd q
le_of_not_lt (inf true) (inf true) p q h = tt
le_of_not_lt (inf true) (inf false) p q h = absurd h
le_of_not_lt (inf false) (inf true) p q h = tt
le_of_not_lt (inf false) (inf false) p q h = tt
le_of_not_lt (inf true) (fin t n d) p q h = absurd h
le_of_not_lt (inf false) (fin t n d) p q h = tt
le_of_not_lt (fin s m e) (inf true) p q h = tt
le_of_not_lt (fin s m e) (inf false) p q h = absurd h
le_of_not_lt (fin s m e) (fin t n d) p q h =
    ordered_of t (n * up d * down e) s (m * up e * down d) (other_way s (m * up e * down d) t (n * up d * down e) h)

pub lt_of_not_le : (x y : Float) → T (not (is_nan x)) → T (not (is_nan y)) → T (not (le x y)) → T (lt y x)
lt_of_not_le x y p q h = go (lt y x) refl
  where
    go : (b : Bool) → lt y x ≡ b → T b
    go true e = tt
    go false e = lib.Dec.T_not (le x y) h (le_of_not_lt y x q p (subst (λ (b : Bool). T (not b)) (sym e) tt))

strictly : (s : Bool) (a : ℕ) (t : Bool) (b : ℕ) → T (below s a t b) → over s a + under t b < over t b + under s a
strictly false a false b h = let k : a < b = ltb→lt a b h in omega arith
strictly false a true b h = absurd h
strictly true a false b h = let k : 0 < a + b = ltb→lt 0 (a + b) h in omega arith
strictly true a true b h = let k : b < a = ltb→lt b a h in omega arith

pub lt_not_le : (x y : Float) → T (lt x y) → T (le y x) → ⊥
unfolding le lt eq
lt_not_le nan y h k = h
lt_not_le (inf s) nan h k = h
lt_not_le (inf true) (inf true) h k = h
lt_not_le (inf true) (inf false) h k = k
lt_not_le (inf false) (inf t) h k = h
lt_not_le (inf true) (fin t n d) h k = k
lt_not_le (inf false) (fin t n d) h k = h
lt_not_le (fin s m e) nan h k = h
lt_not_le (fin s m e) (inf true) h k = h
lt_not_le (fin s m e) (inf false) h k = k
lt_not_le (fin s m e) (fin t n d) h k =
    let a = strictly s (m * up e * down d) t (n * up d * down e) h in
    let b = of_ordered t (n * up d * down e) s (m * up e * down d) k in
    clash (over s (m * up e * down d)) (under s (m * up e * down d)) (over t (n * up d * down e)) (under t (n * up d * down e)) a b
  where
    clash : (xo xu yo yu : ℕ) → xo + yu < yo + xu → yo + xu ≤ xo + yu → ⊥
    clash xo xu yo yu a b = omega arith

-- ---- signs turned
turned : (s t : Bool) (a c b k : ℕ) → over s a * c + under t b * k ≤ over t b * k + under s a * c
    → over (not t) b * k + under (not s) a * c ≤ over (not s) a * c + under (not t) b * k
turned true true a c b k h = omega arith
turned true false a c b k h = omega arith
turned false true a c b k h = omega arith
turned false false a c b k h = omega arith

neg_number : (y : Float) → T (not (is_nan y)) → T (not (is_nan (neg y)))
unfolding is_nan neg
neg_number nan h = h
neg_number (inf s) h = tt
neg_number (fin s m e) h = tt

neg_infinities : (s t : Bool) → T (le (inf s) (inf t)) → T (le (inf (not t)) (inf (not s)))
unfolding le lt eq
neg_infinities true true h = tt
neg_infinities true false h = tt
neg_infinities false true h = h
neg_infinities false false h = tt

neg_ends : (s t : Bool) (m : ℕ) (e : ℤ) → (T (le (inf s) (fin t m e)) → T (le (fin (not t) m e) (inf (not s)))) × (T (le (fin t m e) (inf s)) → T (le (inf (not s)) (fin (not t) m e)))
unfolding le lt eq
neg_ends true t m e = (λ h. tt, λ h. absurd h)
neg_ends false t m e = (λ h. absurd h, λ h. tt)

pub neg_le : (x y : Float) → T (le x y) → T (le (neg y) (neg x))
unfolding neg is_nan
neg_le nan y h = absurd (left_number nan y h)
neg_le (inf s) nan h = absurd (right_number (inf s) nan h)
neg_le (fin s m e) nan h = absurd (right_number (fin s m e) nan h)
neg_le (inf s) (inf t) h = neg_infinities s t h
neg_le (inf s) (fin t n d) h = (neg_ends s t n d).0 h
neg_le (fin s m e) (inf t) h = (neg_ends t s m e).1 h
neg_le (fin s m e) (fin t n d) h = le_of (not t) n d (not s) m e (turned s t (m * up e) (down d) (n * up d) (down e) (of_le s m e t n d h))

-- ---- three values
-- x over p, y over q, z over r
through : (xo xu yo yu zo zu p q r : ℕ) → 0 < q → xo * q + yu * p ≤ yo * p + xu * q → yo * r + zu * q ≤ zo * q + yu * r → xo * r + zu * p ≤ zo * p + xu * r
through xo xu yo yu zo zu p q r Q h k =
    let a : (xo * q + yu * p) * r ≤ (yo * p + xu * q) * r = mul-le-mul_right r h in
    let b : (yo * r + zu * q) * p ≤ (zo * q + yu * r) * p = mul-le-mul_right p k in
    let g : (xo * r + zu * p) * q ≤ (zo * p + xu * r) * q = omega arith in
    le_of_mul-le-mul_right g Q

through_lowest : (x z : Float) → T (le x (inf true)) → T (le (inf true) z) → T (le x z)
unfolding le lt eq
through_lowest nan z h k = absurd h
through_lowest (inf true) z h k = k
through_lowest (inf false) z h k = absurd h
through_lowest (fin s m e) z h k = absurd h

through_highest : (x z : Float) → T (le x (inf false)) → T (le (inf false) z) → T (le x z)
unfolding le lt eq
through_highest x nan h k = absurd k
through_highest x (inf true) h k = absurd k
through_highest x (inf false) h k = h
through_highest x (fin s m e) h k = absurd k

pub above_highest : (t : Bool) (n : ℕ) (d : ℤ) → T (le (inf false) (fin t n d)) → ⊥
unfolding le lt eq
above_highest t n d h = h

pub below_lowest : (t : Bool) (n : ℕ) (d : ℤ) → T (le (fin t n d) (inf true)) → ⊥
unfolding le lt eq
below_lowest t n d h = h

through_finite : (x : Float) (t : Bool) (n : ℕ) (d : ℤ) (z : Float) → T (le x (fin t n d)) → T (le (fin t n d) z) → T (le x z)
unfolding is_nan
through_finite nan t n d z h k = absurd (left_number nan (fin t n d) h)
through_finite (inf true) t n d z h k = lowest z (right_number (fin t n d) z k)
through_finite (inf false) t n d z h k = absurd (above_highest t n d h)
through_finite (fin s m e) t n d nan h k = absurd (right_number (fin t n d) nan k)
through_finite (fin s m e) t n d (inf true) h k = absurd (below_lowest t n d k)
through_finite (fin s m e) t n d (inf false) h k = highest (fin s m e) tt
through_finite (fin s m e) t n d (fin w k g) h l =
    le_of s m e w k g
    (through (over s (m * up e)) (under s (m * up e)) (over t (n * up d)) (under t (n * up d)) (over w (k * up g)) (under w (k * up g)) (down e) (down d) (down g) (down_pos d)
    (of_le s m e t n d h) (of_le t n d w k g l))

pub le_trans : (x y z : Float) → T (le x y) → T (le y z) → T (le x z)
unfolding is_nan
le_trans x nan z h k = absurd (left_number nan z k)
le_trans x (inf true) z h k = through_lowest x z h k
le_trans x (inf false) z h k = through_highest x z h k
le_trans x (fin t n d) z h k = through_finite x t n d z h k

-- ---- what lies between two finite values is finite
pub between_finite : (x y z : Float) → T (finite x) → T (finite z) → T (le x y) → T (le y z) → T (finite y)
between_finite nan y z p q h k = absurd p
between_finite (inf s) y z p q h k = absurd p
between_finite (fin s m e) nan z p q h k = absurd (unfold is_nan in right_number (fin s m e) nan h)
between_finite (fin s m e) (inf true) z p q h k = absurd (below_lowest s m e h)
between_finite (fin s m e) (inf false) nan p q h k = absurd q
between_finite (fin s m e) (inf false) (inf t) p q h k = absurd q
between_finite (fin s m e) (inf false) (fin t n d) p q h k = absurd (above_highest t n d k)
between_finite (fin s m e) (fin t n d) z p q h k = tt

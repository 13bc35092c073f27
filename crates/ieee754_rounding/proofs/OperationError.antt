-- How far each operation can be from the exact result, whatever the signs: absolutely, below a bound on its size, and relatively. For any
-- format. A finite value is p - q units, as in specs/Code/Errors.antt. Assumes nothing.
use mathlib.Core.Path.{◌≡◌, sym, ap, ◌∙◌, subst}
use mathlib.Core.Bool.{Bool, true, false, not, cond}
use Prim.Native.Nat.{ℕ, suc, ◌+◌, ◌-◌, ◌*◌, ◌^◌, ◌≤◌, ◌<◌}
use native.Mathlib.Nat.{le_trans, le_of_eq, le_of_lt, lt_of_lt_of_le, mul-one, mul_assoc, mul_comm, mul-pos, mul-le-mul_left, mul-le-mul_right, mul-lt-mul_of_pos_right, le_of_mul-le-mul_right, lt_of_mul-lt-mul_right, pow-succ', zero-lt-suc}
use native.Mathlib.Omega.{arith}
use lib.Dec.{T, ltb, ltb→lt, nltb→le}
use lib.Pow.{pow_pos, pow_mono}
use lib.Ieee.{Float, Format, prec, emax, low, round, add, sub, mul, div}
use lib.Ieee.Fits.{round_is}
use lib.Ieee.Exact.{HasValue, units_val}
use lib.Ieee.Order.{drop, kept}
use lib.Ieee.Scale.{grid, overflow}
use Rattle.ieee754_rounding.specs.Code.Errors.{Val, Within, NearVal, RelativeVal}
use Rattle.ieee754_rounding.specs.Distance.{distance}
use Rattle.ieee754_rounding.proofs.RoundingError.{absolute, relative}
use Rattle.ieee754_rounding.proofs.Values.{plain}
use Rattle.ieee754_rounding.proofs.OperationRounding.{Rounds, add_rounds, sub_rounds, mul_rounds, div_rounds}

-- ---- `round` at a / (c * 2 ^ low), which is a / c units
module _ (f : Format) (s : Bool) (a c J : ℕ) (C : 0 < c) (h : a < 2 ^ J * c) (room : J ≤ low f + emax f) where
  abbrev l : ℕ
  l = 2 ^ low f

  abbrev g : ℕ
  g = grid f a (c * l)

  close : Within (c * 2 ^ (J - prec f)) (2 * (g * c)) (2 * a)
  close =
      let w = absolute f a (c * l) J (mul-pos C (pow_pos (low f))) (lt_of_lt_of_le (mul-lt-mul_of_pos_right h (pow_pos (low f))) (le_of_eq (mul_assoc (2 ^ J) c l))) in
      record {
        under = le_of_mul-le-mul_right (le_trans (le_of_eq (out g c l)) (le_trans w.under (le_of_eq (all a l c (2 ^ (J - prec f)))))) (pow_pos (low f));
        over = le_of_mul-le-mul_right (le_trans (le_of_eq (out' a l)) (le_trans w.over (le_of_eq (all' g c l (2 ^ (J - prec f)))))) (pow_pos (low f));
      }
    where
      out : (g c l : ℕ) → 2 * (g * c) * l ≡ 2 * (g * (c * l))
      out g c l = omega arith

      all : (a l c k : ℕ) → 2 * (a * l) + c * l * k ≡ (2 * a + c * k) * l
      all a l c k = omega arith

      out' : (a l : ℕ) → 2 * a * l ≡ 2 * (a * l)
      out' a l = omega arith

      all' : (g c l k : ℕ) → 2 * (g * (c * l)) + c * l * k ≡ (2 * (g * c) + c * k) * l
      all' g c l k = omega arith

  fine : g < overflow f
  fine =
      lt_of_lt_of_le
      (lt_of_mul-lt-mul_right c (less (g * c) a (2 ^ J * c) (c * 2 ^ (J - prec f)) (2 ^ suc J * c) (ap (λ (z : ℕ). z * c) (pow-succ' 2 J) ∙ mul_assoc 2 (2 ^ J) c) h (le_trans (le_of_eq (mul_comm c (2 ^ (J - prec f)))) (mul-le-mul_right c (pow_mono (native.Mathlib.Nat.sub-le J (prec f))))) close.under))
      (pow_mono (le_trans (step J (low f + emax f) room) (le_of_eq (assoc (low f) (emax f)))))
    where
      less : (x a b d t : ℕ) → t ≡ 2 * b → a < b → d ≤ b → 2 * x ≤ 2 * a + d → x < t
      less x a b d t e h k i = omega arith

      step : (x y : ℕ) → x ≤ y → suc x ≤ suc y
      step x y h = omega arith

      assoc : (u v : ℕ) → suc (u + v) ≡ u + suc v
      assoc u v = omega arith

  value : HasValue (round f s a (c * l)) s g l
  value = subst (λ (z : Float). HasValue z s g l) (sym (round_is f s a (c * l))) (units_val f s (kept (prec f) (a * l) (c * l)) (drop (prec f) (a * l) (c * l)) fine)

  close_relative : Within (a + 2 ^ (prec f - 1) * c) (2 ^ prec f * (g * c)) (2 ^ prec f * a)
  close_relative =
      let w = relative f a (c * l) (mul-pos C (pow_pos (low f))) in
      record {
        under = le_of_mul-le-mul_right (le_trans (le_of_eq (out (2 ^ prec f) g c l)) (le_trans w.under (le_of_eq (all (2 ^ prec f) a l c (2 ^ (prec f - 1)))))) (pow_pos (low f));
        over = le_of_mul-le-mul_right (le_trans (le_of_eq (out' (2 ^ prec f) a l)) (le_trans w.over (le_of_eq (all' (2 ^ prec f) g c l a (2 ^ (prec f - 1)))))) (pow_pos (low f));
      }
    where
      out : (p g c l : ℕ) → p * (g * c) * l ≡ p * (g * (c * l))
      out p g c l = omega arith

      all : (p a l c k : ℕ) → p * (a * l) + (a * l + k * (c * l)) ≡ (p * a + (a + k * c)) * l
      all p a l c k = omega arith

      out' : (p a l : ℕ) → p * a * l ≡ p * (a * l)
      out' p a l = omega arith

      all' : (p g c l a k : ℕ) → p * (g * (c * l)) + (a * l + k * (c * l)) ≡ (p * (g * c) + (a + k * c)) * l
      all' p g c l a k = omega arith

  pub rounded_near : (p q : ℕ) → cond s q p ≡ cond s p q + a → NearVal f (round f s a (c * l)) c (c * 2 ^ (J - prec f)) p q
  rounded_near p q e = record { P = cond s 0 g; Q = cond s g 0; val = plain f (round f s a (c * l)) s g value; under = lower s e; over = upper s e }
    where
      lower : (t : Bool) → cond t q p ≡ cond t p q + a → 2 * (cond t 0 g * c) + 2 * q ≤ 2 * (cond t g 0 * c) + 2 * p + c * 2 ^ (J - prec f)
      lower true e = let w = close in let o = w.over in omega arith
      lower false e = let w = close in let o = w.under in omega arith

      upper : (t : Bool) → cond t q p ≡ cond t p q + a → 2 * (cond t g 0 * c) + 2 * p ≤ 2 * (cond t 0 g * c) + 2 * q + c * 2 ^ (J - prec f)
      upper true e = let w = close in let o = w.under in omega arith
      upper false e = let w = close in let o = w.over in omega arith

  pub rounded_relative : (p q : ℕ) → cond s q p ≡ cond s p q + a → RelativeVal f (round f s a (c * l)) c p q
  rounded_relative p q e =
      record { P = cond s 0 g; Q = cond s g 0; val = plain f (round f s a (c * l)) s g value; under = lower s e; over = upper s e }
    where
      w : Within (a + 2 ^ (prec f - 1) * c) (2 ^ prec f * (g * c)) (2 ^ prec f * a)
      w = close_relative

      -- with p = q + a or q = p + a, and x for 2 ^ prec, y for the grid's number times c, z for the slack
      above : (x y a q z : ℕ) → x * y ≤ x * a + (a + z) → x * (y + q) ≤ x * (0 + (q + a)) + (q + a - q + (q - (q + a)) + z)
      above x y a q z h = let d : q + a - q + (q - (q + a)) ≡ a = omega arith in subst (λ (v : ℕ). x * (y + q) ≤ x * (0 + (q + a)) + (v + z)) (sym d) (go h)
        where
          go : x * y ≤ x * a + (a + z) → x * (y + q) ≤ x * (0 + (q + a)) + (a + z)
          go h = omega arith

      below : (x y a q z : ℕ) → x * a ≤ x * y + (a + z) → x * (0 + (q + a)) ≤ x * (y + q) + (q + a - q + (q - (q + a)) + z)
      below x y a q z h = let d : q + a - q + (q - (q + a)) ≡ a = omega arith in subst (λ (v : ℕ). x * (0 + (q + a)) ≤ x * (y + q) + (v + z)) (sym d) (go h)
        where
          go : x * a ≤ x * y + (a + z) → x * (0 + (q + a)) ≤ x * (y + q) + (a + z)
          go h = omega arith

      turned : (u v : ℕ) → distance u v ≡ distance v u
      turned u v = omega arith

      lower : (t : Bool) → cond t q p ≡ cond t p q + a → 2 ^ prec f * (cond t 0 g * c + q) ≤ 2 ^ prec f * (cond t g 0 * c + p) + (distance p q + 2 ^ (prec f - 1) * c)
      lower true e =
          subst (λ (v : ℕ). 2 ^ prec f * (0 * c + v) ≤ 2 ^ prec f * (g * c + p) + (distance p v + 2 ^ (prec f - 1) * c)) (sym e)
          (le_trans (le_of_eq (ap (λ (v : ℕ). 2 ^ prec f * (v + (p + a))) (native.Mathlib.Nat.zero-mul c)))
          (le_trans (below (2 ^ prec f) (g * c) a p (2 ^ (prec f - 1) * c) w.over) (le_of_eq (ap (λ (v : ℕ). 2 ^ prec f * (g * c + p) + (v + 2 ^ (prec f - 1) * c)) (turned (p + a) p)))))
      lower false e =
          subst (λ (v : ℕ). 2 ^ prec f * (g * c + q) ≤ 2 ^ prec f * (0 * c + v) + (distance v q + 2 ^ (prec f - 1) * c)) (sym e)
          (le_trans (above (2 ^ prec f) (g * c) a q (2 ^ (prec f - 1) * c) w.under) (le_of_eq (ap (λ (v : ℕ). 2 ^ prec f * (v + (q + a)) + (distance (q + a) q + 2 ^ (prec f - 1) * c)) (sym (native.Mathlib.Nat.zero-mul c)))))

      upper : (t : Bool) → cond t q p ≡ cond t p q + a → 2 ^ prec f * (cond t g 0 * c + p) ≤ 2 ^ prec f * (cond t 0 g * c + q) + (distance p q + 2 ^ (prec f - 1) * c)
      upper true e =
          subst (λ (v : ℕ). 2 ^ prec f * (g * c + p) ≤ 2 ^ prec f * (0 * c + v) + (distance p v + 2 ^ (prec f - 1) * c)) (sym e)
          (le_trans (above (2 ^ prec f) (g * c) a p (2 ^ (prec f - 1) * c) w.under) (le_of_eq (ap (λ (v : ℕ). 2 ^ prec f * (v + (p + a)) + (distance (p + a) p + 2 ^ (prec f - 1) * c)) (sym (native.Mathlib.Nat.zero-mul c)) ∙ ap (λ (v : ℕ). 2 ^ prec f * (0 * c + (p + a)) + (v + 2 ^ (prec f - 1) * c)) (turned (p + a) p))))
      upper false e =
          subst (λ (v : ℕ). 2 ^ prec f * (0 * c + v) ≤ 2 ^ prec f * (g * c + q) + (distance v q + 2 ^ (prec f - 1) * c)) (sym e)
          (le_trans (le_of_eq (ap (λ (v : ℕ). 2 ^ prec f * (v + (q + a))) (native.Mathlib.Nat.zero-mul c))) (below (2 ^ prec f) (g * c) a q (2 ^ (prec f - 1) * c) w.over))

-- the exact size is below a bound, where the difference is either way
size_under : (s : Bool) (p q a b : ℕ) → cond s q p ≡ cond s p q + a → p < q + b → q < p + b → a < b
size_under true p q a b e h k = omega arith
size_under false p q a b e h k = omega arith

-- ---- the two errors of anything that is rounded once
pub near_of : (f : Format) (z : Float) (c p q J : ℕ) → Rounds f z c p q → 0 < c → J ≤ low f + emax f → p < q + 2 ^ J * c → q < p + 2 ^ J * c → NearVal f z c (c * 2 ^ (J - prec f)) p q
near_of f z c p q J r C room h k =
    subst (λ (y : Float). NearVal f y c (c * 2 ^ (J - prec f)) p q) (sym r.is)
    (rounded_near f r.sign r.size c J C (size_under r.sign p q r.size (2 ^ J * c) r.by h k) room p q r.by)

pub relative_of : (f : Format) (z : Float) (c p q J : ℕ) → Rounds f z c p q → 0 < c → J ≤ low f + emax f → p < q + 2 ^ J * c → q < p + 2 ^ J * c → RelativeVal f z c p q
relative_of f z c p q J r C room h k =
    subst (λ (y : Float). RelativeVal f y c p q) (sym r.is)
    (rounded_relative f r.sign r.size c J C (size_under r.sign p q r.size (2 ^ J * c) r.by h k) room p q r.by)

once : (x y z : ℕ) → x < y + z → x < y + z * 1
once x y z h = omega arith

-- ---- each operation, below 2 ^ J units: the error is at most half of 2 ^ (J - prec) units
pub add_near : (f : Format) (x y : Float) (p q p' q' J : ℕ) → Val f x p q → Val f y p' q' → J ≤ low f + emax f → p + p' < q + q' + 2 ^ J → q + q' < p + p' + 2 ^ J
    → NearVal f (add f x y) 1 (1 * 2 ^ (J - prec f)) (p + p') (q + q')
add_near f x y p q p' q' J v w room h k = near_of f (add f x y) 1 (p + p') (q + q') J (add_rounds f x y p q p' q' v w) (zero-lt-suc 0) room (once _ _ (2 ^ J) h) (once _ _ (2 ^ J) k)

pub sub_near : (f : Format) (x y : Float) (p q p' q' J : ℕ) → Val f x p q → Val f y p' q' → J ≤ low f + emax f → p + q' < q + p' + 2 ^ J → q + p' < p + q' + 2 ^ J
    → NearVal f (sub f x y) 1 (1 * 2 ^ (J - prec f)) (p + q') (q + p')
sub_near f x y p q p' q' J v w room h k = near_of f (sub f x y) 1 (p + q') (q + p') J (sub_rounds f x y p q p' q' v w) (zero-lt-suc 0) room (once _ _ (2 ^ J) h) (once _ _ (2 ^ J) k)

pub mul_near : (f : Format) (x y : Float) (p q p' q' J : ℕ) → Val f x p q → Val f y p' q' → J ≤ low f + emax f
    → p * p' + q * q' < p * q' + q * p' + 2 ^ J * 2 ^ low f → p * q' + q * p' < p * p' + q * q' + 2 ^ J * 2 ^ low f
    → NearVal f (mul f x y) (2 ^ low f) (2 ^ low f * 2 ^ (J - prec f)) (p * p' + q * q') (p * q' + q * p')
mul_near f x y p q p' q' J v w room h k = near_of f (mul f x y) (2 ^ low f) (p * p' + q * q') (p * q' + q * p') J (mul_rounds f x y p q p' q' v w) (pow_pos (low f)) room h k

-- the divisor has v units and the sign t
pub div_near : (f : Format) (x y : Float) (t : Bool) (p q v J : ℕ) → Val f x p q → HasValue y t v (2 ^ low f) → 0 < v → J ≤ low f + emax f
    → cond t q p * 2 ^ low f < cond t p q * 2 ^ low f + 2 ^ J * v → cond t p q * 2 ^ low f < cond t q p * 2 ^ low f + 2 ^ J * v
    → NearVal f (div f x y) v (v * 2 ^ (J - prec f)) (cond t q p * 2 ^ low f) (cond t p q * 2 ^ low f)
div_near f x y t p q v J a b pv room h k = near_of f (div f x y) v (cond t q p * 2 ^ low f) (cond t p q * 2 ^ low f) J (div_rounds f x y t p q v a b pv) pv room h k

-- ---- and relatively, where the result does not overflow
pub add_relative : (f : Format) (x y : Float) (p q p' q' J : ℕ) → Val f x p q → Val f y p' q' → J ≤ low f + emax f → p + p' < q + q' + 2 ^ J → q + q' < p + p' + 2 ^ J
    → RelativeVal f (add f x y) 1 (p + p') (q + q')
add_relative f x y p q p' q' J v w room h k = relative_of f (add f x y) 1 (p + p') (q + q') J (add_rounds f x y p q p' q' v w) (zero-lt-suc 0) room (once _ _ (2 ^ J) h) (once _ _ (2 ^ J) k)

pub sub_relative : (f : Format) (x y : Float) (p q p' q' J : ℕ) → Val f x p q → Val f y p' q' → J ≤ low f + emax f → p + q' < q + p' + 2 ^ J → q + p' < p + q' + 2 ^ J
    → RelativeVal f (sub f x y) 1 (p + q') (q + p')
sub_relative f x y p q p' q' J v w room h k = relative_of f (sub f x y) 1 (p + q') (q + p') J (sub_rounds f x y p q p' q' v w) (zero-lt-suc 0) room (once _ _ (2 ^ J) h) (once _ _ (2 ^ J) k)

pub mul_relative : (f : Format) (x y : Float) (p q p' q' J : ℕ) → Val f x p q → Val f y p' q' → J ≤ low f + emax f
    → p * p' + q * q' < p * q' + q * p' + 2 ^ J * 2 ^ low f → p * q' + q * p' < p * p' + q * q' + 2 ^ J * 2 ^ low f
    → RelativeVal f (mul f x y) (2 ^ low f) (p * p' + q * q') (p * q' + q * p')
mul_relative f x y p q p' q' J v w room h k = relative_of f (mul f x y) (2 ^ low f) (p * p' + q * q') (p * q' + q * p') J (mul_rounds f x y p q p' q' v w) (pow_pos (low f)) room h k

pub div_relative : (f : Format) (x y : Float) (t : Bool) (p q v J : ℕ) → Val f x p q → HasValue y t v (2 ^ low f) → 0 < v → J ≤ low f + emax f
    → cond t q p * 2 ^ low f < cond t p q * 2 ^ low f + 2 ^ J * v → cond t p q * 2 ^ low f < cond t q p * 2 ^ low f + 2 ^ J * v
    → RelativeVal f (div f x y) v (cond t q p * 2 ^ low f) (cond t p q * 2 ^ low f)
div_relative f x y t p q v J a b pv room h k = relative_of f (div f x y) v (cond t q p * 2 ^ low f) (cond t p q * 2 ^ low f) J (div_rounds f x y t p q v a b pv) pv room h k

-- ---- x * y + z, both roundings together
pub multiply_add_near : (f : Format) (x y z : Float) (p q p' q' a b J K : ℕ) → Val f x p q → Val f y p' q' → Val f z a b → J ≤ low f + emax f → K ≤ low f + emax f
    → p * p' + q * q' < p * q' + q * p' + 2 ^ J * 2 ^ low f → p * q' + q * p' < p * p' + q * q' + 2 ^ J * 2 ^ low f
    → 2 * (p * p' + q * q' + a * 2 ^ low f) + 2 ^ low f * 2 ^ (J - prec f) < 2 * (p * q' + q * p' + b * 2 ^ low f) + 2 * (2 ^ K * 2 ^ low f)
    → 2 * (p * q' + q * p' + b * 2 ^ low f) + 2 ^ low f * 2 ^ (J - prec f) < 2 * (p * p' + q * q' + a * 2 ^ low f) + 2 * (2 ^ K * 2 ^ low f)
    → NearVal f (add f (mul f x y) z) (2 ^ low f) (2 ^ low f * (2 ^ (J - prec f) + 2 ^ (K - prec f))) (p * p' + q * q' + a * 2 ^ low f) (p * q' + q * p' + b * 2 ^ low f)
multiply_add_near f x y z p q p' q' a b J K u v w j k h1 h2 h3 h4 =
    let l = 2 ^ low f in
    let m = mul_near f x y p q p' q' J u v j h1 h2 in
    let s = add_near f (mul f x y) z m.P m.Q a b K m.val w k
    (lt_of_mul-lt-mul_right l (in-bound m.P m.Q a b (p * p' + q * q') (p * q' + q * p') l (2 ^ (J - prec f)) (2 ^ K) m.under h3))
    (lt_of_mul-lt-mul_right l (in-bound m.Q m.P b a (p * q' + q * p') (p * p' + q * q') l (2 ^ (J - prec f)) (2 ^ K) m.over h4)) in
    record {
      P = s.P;
      Q = s.Q;
      val = s.val;
      under = both s.P s.Q m.P m.Q a b (p * p' + q * q') (p * q' + q * p') l (2 ^ (J - prec f)) (2 ^ (K - prec f)) m.under (mul-le-mul_right l s.under);
      over = both s.Q s.P m.Q m.P b a (p * q' + q * p') (p * p' + q * q') l (2 ^ (J - prec f)) (2 ^ (K - prec f)) m.over (mul-le-mul_right l s.over);
    }
  where
    in-bound : (P Q a b s t l d e : ℕ) → 2 * (P * l) + 2 * t ≤ 2 * (Q * l) + 2 * s + l * d → 2 * (s + a * l) + l * d < 2 * (t + b * l) + 2 * (e * l) → (P + a) * l < (Q + b + e) * l
    in-bound P Q a b s t l d e h k = omega arith

    both : (R S P Q a b s t l d e : ℕ) → 2 * (P * l) + 2 * t ≤ 2 * (Q * l) + 2 * s + l * d → (2 * (R * 1) + 2 * (Q + b)) * l ≤ (2 * (S * 1) + 2 * (P + a) + 1 * e) * l
        → 2 * (R * l) + 2 * (t + b * l) ≤ 2 * (S * l) + 2 * (s + a * l) + l * (d + e)
    both R S P Q a b s t l d e h k = omega arith

-- ---- |x| ≤ B and |y| ≤ C give |x * y| ≤ B * C
pub prod_bound : (p q p' q' B C : ℕ) → p ≤ q + B → q ≤ p + B → p' ≤ q' + C → q' ≤ p' + C → p * p' + q * q' ≤ p * q' + q * p' + B * C
prod_bound p q p' q' B C a b c d = go (ltb p q) (ltb p' q') (ltb→lt p q) (nltb→le p q) (ltb→lt p' q') (nltb→le p' q')
  where
    up : (q q' u u' : ℕ) → (q + u) * (q' + u') + q * q' ≡ (q + u) * q' + q * (q' + u') + u * u'
    up q q' u u' = omega arith

    same : (p q p' q' : ℕ) → p ≤ q + B → p' ≤ q' + C → q ≤ p → q' ≤ p' → p * p' + q * q' ≤ p * q' + q * p' + B * C
    same p q p' q' a c h k =
        let u = p - q in
        let u' = p' - q' in
        let e : p ≡ q + u = back q p h in
        let e' : p' ≡ q' + u' = back q' p' k in
        le_trans (le_of_eq (ap (λ (z : ℕ). z * p' + q * q') e ∙ ap (λ (z : ℕ). (q + u) * z + q * q') e' ∙ up q q' u u' ∙ sym (ap (λ (z : ℕ). z * q' + q * p' + u * u') e ∙ ap (λ (z : ℕ). (q + u) * q' + q * z + u * u') e')))
        (more (p * q' + q * p') (u * u') (B * C) (native.Mathlib.Nat.mul-le-mul (off p q B a) (off p' q' C c)))
      where
        back : (a b : ℕ) → a ≤ b → b ≡ a + (b - a)
        back a b h = omega arith

        off : (a b d : ℕ) → a ≤ b + d → a - b ≤ d
        off a b d h = omega arith

        more : (a b d : ℕ) → b ≤ d → a + b ≤ a + d
        more a b d h = omega arith

    flip : (p q p' q' : ℕ) → q ≤ p → p' ≤ q' → p * p' + q * q' ≤ p * q' + q * p' + B * C
    flip p q p' q' h k =
        let u = p - q in
        let u' = q' - p' in
        let e : p ≡ q + u = back q p h in
        let e' : q' ≡ p' + u' = back p' q' k in
        le_trans (le_of_eq (ap (λ (z : ℕ). z * p' + q * q') e ∙ ap (λ (z : ℕ). (q + u) * p' + q * z) e'))
        (le_trans (least q u p' u') (le_trans (le_of_eq (sym (ap (λ (z : ℕ). z * q' + q * p') e ∙ ap (λ (z : ℕ). (q + u) * z + q * p') e'))) (less (p * q' + q * p') (B * C))))
      where
        back : (a b : ℕ) → a ≤ b → b ≡ a + (b - a)
        back a b h = omega arith

        least : (q u p' u' : ℕ) → (q + u) * p' + q * (p' + u') ≤ (q + u) * (p' + u') + q * p'
        least q u p' u' = omega arith

        less : (a b : ℕ) → a ≤ a + b
        less a b = omega arith

    swap : (a b c d : ℕ) → a + b ≤ c + d → b + a ≤ d + c
    swap a b c d h = omega arith

    turn : (x y : ℕ) → x + y ≡ y + x
    turn x y = omega arith

    go : (r s : Bool) → (T r → p < q) → (T (not r) → q ≤ p) → (T s → p' < q') → (T (not s) → q' ≤ p') → p * p' + q * q' ≤ p * q' + q * p' + B * C
    go false false e f g h = same p q p' q' a c (f tt) (h tt)
    go true true e f g h = le_trans (le_of_eq (turn (p * p') (q * q'))) (le_trans (same q p q' p' b d (le_of_lt (e tt)) (le_of_lt (g tt))) (le_of_eq (ap (λ (z : ℕ). z + B * C) (turn (q * p') (p * q')))))
    go false true e f g h = flip p q p' q' (f tt) (le_of_lt (g tt))
    go true false e f g h = le_trans (le_of_eq (turn (p * p') (q * q'))) (le_trans (flip q p q' p' (le_of_lt (e tt)) (h tt)) (le_of_eq (ap (λ (z : ℕ). z + B * C) (turn (q * p') (p * q')))))

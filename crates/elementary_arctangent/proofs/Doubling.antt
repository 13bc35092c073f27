-- Whether 2 a ≤ b, for floats a and b that are not negative: the product a * 2.0 decides it, also where it overflows.
use mathlib.Core.Path.{◌≡◌, refl, sym, ap, ◌∙◌, subst}
use mathlib.Core.Bool.{Bool, true, false, not, ◌&&◌, ◌||◌}
use Prim.Native.Nat.{ℕ, ◌*◌, ◌^◌, ◌≤◌, ◌<◌}
use native.Mathlib.Nat.{le_trans, le_of_eq, le_of_lt, lt_of_le_of_lt, lt_of_lt_of_le, lt_of_not-le, lt_of_mul-lt-mul_right, mul-lt-mul_of_pos_right, zero-lt-suc, mul_assoc, mul_comm, mul_right_comm, mul-one, mul-pos, mul-le-mul_right, le_of_mul-le-mul_right}
use lib.IntN.{ℤ, pos}
use lib.Dec.{T, ltb, eqb, ltb→lt, nltb→le, eqb→eq}
use lib.Ieee.{Float, nan, inf, fin, binary64, up, down, span, climb, size, units, round, mul, lt, le, eq, fits}
use lib.Ieee.Fits.{down_pos}
use lib.Ieee.Exact.{HasValue}
use lib.Ieee.Order.{round_mono, le_of_values}
use lib.Ieee.Positive.{num, den}
use Rattle.elementary_fixed_point.specs.Code.Bounds.{nonnegative}
use Rattle.ieee754_rounding.proofs.FormatValues.{fitting}
use Rattle.elementary_fixed_point.proofs.PowerOfTwo.{times_exact}

over_top : round binary64 false (2 ^ 1024) 1 ≡ inf false
unfolding round size span climb units
over_top = refl

pub either : (x y : ℕ) → T (ltb x y || (eqb x y && true)) → x ≤ y
either x y t = pick (ltb x y) (eqb x y) (ltb→lt x y) (eqb→eq x y) t
  where
    pick : (p q : Bool) → (T p → x < y) → (T q → x ≡ y) → T (p || (q && true)) → x ≤ y
    pick true q f g t = le_of_lt (f tt)
    pick false true f g t = le_of_eq (g tt)
    pick false false f g t = absurd t

abbrev pub doubled : Float → Float
doubled a = mul binary64 a (fin false 1 (pos 1))

module _ (m : ℕ) (e : ℤ) (n : ℕ) (d : ℤ) (fa : T (fits binary64 (fin false m e))) (fb : T (fits binary64 (fin false n d))) where
  abbrev a2 : Float
  a2 = doubled (fin false m e)

  -- where 2 a does not reach 2 ^ 1024, the product is 2 a
  value : m * up e * (1 * 2 ^ 1) < 2 ^ 1024 * (down e * 1) → HasValue a2 false (m * up e * (1 * 2 ^ 1)) (down e * 1)
  value h = times_exact binary64 m e fa 1 h

  at : (x : Float) → HasValue x false (m * up e * (1 * 2 ^ 1)) (down e * 1) → T (le x (fin false n d)) → m * up e * 2 * down d ≤ n * up d * down e
  unfolding le lt eq
  at nan v t = absurd v
  at (inf s) v t = absurd v
  at (fin true M E) v t = absurd (subst (λ (b : Bool). T b) v.0 tt)
  at (fin false M E) v t =
      le_of_mul-le-mul_right {m = m * up e * 2 * down d} {n = n * up d * down e} {k = down E}
      (le_trans (le_of_eq (mul_right_comm (m * up e * 2) (down d) (down E) ∙ ap (λ (z : ℕ). z * down d) (sym v.1) ∙ ap (λ (z : ℕ). M * up E * z * down d) (mul-one (down e)) ∙ mul_right_comm (M * up E) (down e) (down d)))
      (le_trans (mul-le-mul_right (down e) (either (M * up E * down d) (n * up d * down E) t)) (le_of_eq (mul_right_comm (n * up d) (down E) (down e))))) (down_pos E)

  -- an overflow is an infinity, which is not below b
  never : (x : Float) → T (le (inf false) x) → T (le x (fin false n d)) → ⊥
  unfolding le lt eq
  never nan a b = a
  never (inf true) a b = a
  never (inf false) a b = b
  never (fin s M E) a b = a

  double_yes : T (le a2 (fin false n d)) → m * up e * 2 * down d ≤ n * up d * down e
  unfolding mul
  double_yes t = go (ltb (m * up e * (1 * 2 ^ 1)) (2 ^ 1024 * (down e * 1))) (ltb→lt (m * up e * (1 * 2 ^ 1)) (2 ^ 1024 * (down e * 1))) (nltb→le (m * up e * (1 * 2 ^ 1)) (2 ^ 1024 * (down e * 1)))
    where
      go : (c : Bool) → (T c → m * up e * (1 * 2 ^ 1) < 2 ^ 1024 * (down e * 1)) → (T (not c) → 2 ^ 1024 * (down e * 1) ≤ m * up e * (1 * 2 ^ 1)) → m * up e * 2 * down d ≤ n * up d * down e
      go true f g = at a2 (value (f tt)) t
      go false f g =
          absurd
          (never a2
          (subst (λ (z : Float). T (le z a2)) over_top
          (round_mono binary64 (2 ^ 1024) 1 (m * up e * (1 * 2 ^ 1)) (down e * 1) (zero-lt-suc 0) (mul-pos (down_pos e) (zero-lt-suc 0)) (le_trans (g tt) (le_of_eq (sym (mul-one (m * up e * (1 * 2 ^ 1))))))))
          t)

  double_no : (T (le a2 (fin false n d)) → ⊥) → n * up d * down e < m * up e * 2 * down d
  double_no t = lt_of_not-le (λ (g : m * up e * 2 * down d ≤ n * up d * down e). t (le_of_values a2 (fin false n d) (m * up e * (1 * 2 ^ 1)) (down e * 1) (n * up d) (down d) (mul-pos (down_pos e) (zero-lt-suc 0)) (down_pos d) (value (reach g)) (refl, refl) (le_trans g (le_of_eq (ap (λ (z : ℕ). n * up d * z) (sym (mul-one (down e))))))))
    where
      reach : m * up e * 2 * down d ≤ n * up d * down e → m * up e * (1 * 2 ^ 1) < 2 ^ 1024 * (down e * 1)
      reach g =
          lt_of_mul-lt-mul_right (down d)
          (lt_of_le_of_lt g (lt_of_lt_of_le (mul-lt-mul_of_pos_right (fitting binary64 false n d fb).below_top (down_pos e)) (le_of_eq (mul_right_comm (2 ^ 1024) (down d) (down e) ∙ ap (λ (z : ℕ). 2 ^ 1024 * z * down d) (sym (mul-one (down e)))))))

-- ---- of any two such floats
turn : (x y : ℕ) → 2 * (x * y) ≡ x * 2 * y
turn x y = sym (mul_assoc 2 x y) ∙ ap (λ (z : ℕ). z * y) (mul_comm 2 x)

pub doubled_upto : (a b : Float) → T (nonnegative a) → T (nonnegative b) → T (fits binary64 a) → T (fits binary64 b) → T (le (doubled a) b) → 2 * (num a * den b) ≤ num b * den a
doubled_upto nan b pa pb fa fb t = absurd pa
doubled_upto (inf s) b pa pb fa fb t = absurd pa
doubled_upto (fin true m e) b pa pb fa fb t = absurd pa
doubled_upto (fin false m e) nan pa pb fa fb t = absurd pb
doubled_upto (fin false m e) (inf s) pa pb fa fb t = absurd pb
doubled_upto (fin false m e) (fin true n d) pa pb fa fb t = absurd pb
doubled_upto (fin false m e) (fin false n d) pa pb fa fb t = le_trans (le_of_eq (turn (m * up e) (down d))) (double_yes m e n d fa fb t)

pub doubled_above : (a b : Float) → T (nonnegative a) → T (nonnegative b) → T (fits binary64 a) → T (fits binary64 b) → (T (le (doubled a) b) → ⊥) → num b * den a < 2 * (num a * den b)
doubled_above nan b pa pb fa fb t = absurd pa
doubled_above (inf s) b pa pb fa fb t = absurd pa
doubled_above (fin true m e) b pa pb fa fb t = absurd pa
doubled_above (fin false m e) nan pa pb fa fb t = absurd pb
doubled_above (fin false m e) (inf s) pa pb fa fb t = absurd pb
doubled_above (fin false m e) (fin true n d) pa pb fa fb t = absurd pb
doubled_above (fin false m e) (fin false n d) pa pb fa fb t = lt_of_lt_of_le (double_no m e n d fa fb t) (le_of_eq (sym (turn (m * up e) (down d))))

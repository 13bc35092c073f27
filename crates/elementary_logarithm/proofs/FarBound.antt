-- Away from 1: the bound and the sign.
use mathlib.Core.Path.{◌≡◌, refl, sym, ap, ◌∙◌, subst}
use mathlib.Core.Bool.{Bool, true, false, not, cond}
use Prim.Native.Nat.{ℕ, suc, ◌+◌, ◌-◌, ◌*◌, ◌^◌, ◌≤◌, ◌<◌, zero-le}
use native.Mathlib.Nat.{le_refl, le_trans, le_of_eq, le_of_lt, lt_of_le_of_lt, lt_of_lt_of_le, lt_irrefl, mul-le-mul_right, mul-lt-mul_of_pos_right, add-le-add, add-mul, add-zero, zero-add, zero-mul, one-mul, le-add_right}
use native.Mathlib.Omega.{arith}
use lib.IntN.{pos, negsuc}
use lib.Dec.{T, ltb, ltb→lt, nltb→le, lit≤}
use lib.Pow.{pow_pos, pow-add, pow_mono}
use borrow.Author.Tests.{le-leb, lt-leb}
use lib.Ieee.{Float, fin, neg, lt, of_bits, minus}
use lib.Ieee.Positive.{num, den}
use Rattle.ieee754.specs.Sign.{plus_zero}
use Rattle.ieee754.specs.Binary64.{two_to_minus54}
use Rattle.elementary_fixed_point.specs.Fraction.{Fraction, sum, negated, times, Near}
use Rattle.elementary_fixed_point.specs.Conversion.{scaled}
use Rattle.elementary_fixed_point.specs.Code.Bounds.{Approximates, Enclosure}
use Rattle.elementary_fixed_point.proofs.Approximations.{approximates_more, approximates_sum, approximates_difference, approximates_times}
use Rattle.elementary_fixed_point.proofs.ToFloat.{Scaled, scaled_near, near_scaled, near_neg}
use Rattle.elementary_logarithm.specs.Series.{L, multiple, quotient}
use Rattle.elementary_logarithm.specs.Steps.{natural, argument, log_two, table_two, common, at_least_one, log_at}
use Rattle.elementary_logarithm.specs.Code.Parts.{over_ten, sum_from, sum_under}
use Rattle.elementary_logarithm.proofs.Constants.{log_two_is, table_two_is, log_two_near}
use Rattle.elementary_logarithm.proofs.SeriesBound.{error, natural_near, natural_upto}
use Rattle.elementary_logarithm.proofs.Argument.{argument_near, argument_upto}
use Rattle.elementary_logarithm.proofs.CommonBound.{approximates_common, common_lt, approximates_at_least, at_least_lt, at_least_pos}
use Rattle.elementary_logarithm.proofs.Sign.{LogarithmAt, above_zero, at_least}

-- a fraction with nothing to take off, from an enclosure: of l, and of more up to the enclosure's width
approximates_enclosed : (U l c E p o : ℕ) → c ≤ E → Enclosure l (l + E) (p * U) o → Approximates U (l + c) E (record { plus = p; minus = 0; over = o })
approximates_enclosed U l c E p o h e = record {
  low = le_trans (le_of_eq (ap (λ (z : ℕ). (l + c) * o + z) (zero-mul U) ∙ add-zero ((l + c) * o) ∙ add-mul l c o)) (add-le-add e.low (mul-le-mul_right o h));
  high = le_trans e.high (le_trans (mul-le-mul_right o (add-le-add (le-add_right l c) (le_refl E))) (le_of_eq (sym (ap (λ (z : ℕ). z + (l + c + E) * o) (zero-mul U) ∙ zero-add ((l + c + E) * o)))));
}

unit_is : two_to_minus54 ≡ fin false 1 (negsuc 53)
unfolding of_bits
unit_is = refl

-- the float of d units
float : (d : ℕ) → d < 2 ^ 64 → Scaled 54 d (scaled d two_to_minus54)
float d h = subst (λ (z : Float). Scaled 54 d (scaled d z)) (sym unit_is) (scaled_near 53 d (lit≤ tt) h)

total : (D E : ℕ) (f : Fraction) → D < 2 ^ 64 → E ≤ 184162 → Approximates (2 ^ 54) D E f → Near 36 (scaled (at_least_one (common D)) two_to_minus54) (over_ten f)
total D E f h few a =
    near_scaled 36 54 (at_least_one (common D)) 184165 (over_ten f) (scaled (at_least_one (common D)) two_to_minus54) (lit≤ tt) (float (at_least_one (common D)) (at_least_lt (common D) (common_lt D h)))
    (approximates_at_least (2 ^ 54) (common D) 184164 (over_ten f) (approximates_common (2 ^ 54) D 184162 f (le_of_lt h) (approximates_more (2 ^ 54) D E 184162 f few a)))

abbrev result : ℕ → Float
result D = scaled (at_least_one (common D)) two_to_minus54

signs : (D : ℕ) → D < 2 ^ 64 → T (lt plus_zero (result D)) × T (lt (neg (result D)) plus_zero)
signs D h = let sc = float (at_least_one (common D)) (at_least_lt (common D) (common_lt D h)) in above_zero 54 (result D) sc.c sc.value (sc.some (at_least_pos (common D)))

sizes : (D : ℕ) → D < 2 ^ 64 → (den (result D) ≤ num (result D) * 2 ^ 55) × (den (neg (result D)) ≤ num (neg (result D)) * 2 ^ 55)
sizes D h = let sc = float (at_least_one (common D)) (at_least_lt (common D) (common_lt D h)) in at_least 54 55 (result D) sc.c sc.value (enough sc.c (sc.some (at_least_pos (common D))))
  where
    enough : (c : ℕ) → 0 < c → 2 ^ 54 ≤ c * 2 ^ 55
    enough c h = omega arith

module _ (s p : ℕ) (from : 2 ^ 52 ≤ s) (upto : s < 2 ^ 53) (high : p ≤ 2097) where
  natural_enclosed : Enclosure (natural s) (natural s + error) ((L s (2 ^ 52)).plus * 2 ^ 54) (L s (2 ^ 52)).over
  unfolding natural
  natural_enclosed = natural_near s (argument s) (le_of_lt upto) (le_trans (argument_upto s from upto) (lit≤ tt)) (argument_near s from upto)

  natural_known : (c : ℕ) → c ≤ error → Approximates (2 ^ 54) (natural s + c) error (L s (2 ^ 52))
  natural_known c h = approximates_enclosed (2 ^ 54) (natural s) c error (L s (2 ^ 52)).plus (L s (2 ^ 52)).over h natural_enclosed

  pub natural_small : natural s ≤ table_two
  unfolding natural
  natural_small = natural_upto (argument s) (argument_upto s from upto)

  -- ---- below 1
  under : p < 1074 → s * 2 ^ p < 2 ^ 1126
  under l = lt_of_lt_of_le (mul-lt-mul_of_pos_right upto (pow_pos p)) (le_trans (le_of_eq (sym (pow-add 2 53 p))) (pow_mono (few p l)))
    where
      few : (p : ℕ) → p < 1074 → 53 + p ≤ 1126
      few p l = omega arith

  abbrev two : Fraction
  two = times (1074 - p) (L 2 1)

  -- what the table lacks at 2
  abbrev lack : ℕ
  lack = log_two - table_two

  table_less : table_two ≤ log_two
  table_less = le_trans (le_of_eq table_two_is) (le_trans (lit≤ {m = 12486629536148167} {n = 12486629536330718} tt) (le_of_eq (sym log_two_is)))

  lack_few : lack ≤ error
  lack_few = le_trans (le_of_eq (ap (λ (z : ℕ). z - table_two) log_two_is ∙ ap (λ (z : ℕ). 12486629536330718 - z) table_two_is)) (lit≤ tt)

  less_near : p < 1074 → Approximates (2 ^ 54) (sum_under s p) ((1074 - p) * 1 + error) (sum two (negated (L s (2 ^ 52))))
  less_near l =
      subst (λ (z : ℕ). Approximates (2 ^ 54) z ((1074 - p) * 1 + error) (sum two (negated (L s (2 ^ 52)))))
      (sym (regroup p log_two table_two (natural s) l table_less natural_small))
      (approximates_difference (2 ^ 54) ((1074 - p) * log_two) ((1074 - p) * 1) two (natural s + lack) error (L s (2 ^ 52)) (enough p log_two table_two (natural s) l table_less natural_small)
      (approximates_times (2 ^ 54) (1074 - p) log_two 1 (L 2 1) log_two_near) (natural_known lack lack_few))
    where
      next : (p a : ℕ) → p < 1074 → (1074 - p) * a ≡ (1073 - p) * a + a
      next p a l = ap (λ (z : ℕ). z * a) (step p l) ∙ add-mul (1073 - p) 1 a ∙ ap (λ (z : ℕ). (1073 - p) * a + z) (one-mul a)
        where
          step : (p : ℕ) → p < 1074 → 1074 - p ≡ 1073 - p + 1
          step p l = omega arith

      regroup : (p a t h : ℕ) → p < 1074 → t ≤ a → h ≤ t → (1073 - p) * a + (t - h) ≡ (1074 - p) * a - (h + (a - t))
      regroup p a t h l q r = go ((1073 - p) * a) a t h q r ∙ ap (λ (z : ℕ). z - (h + (a - t))) (sym (next p a l))
        where
          go : (k a t h : ℕ) → t ≤ a → h ≤ t → k + (t - h) ≡ k + a - (h + (a - t))
          go k a t h q r = omega arith

      enough : (p a t h : ℕ) → p < 1074 → t ≤ a → h ≤ t → h + (a - t) ≤ (1074 - p) * a
      enough p a t h l q r = le_trans (go ((1073 - p) * a) a t h q r) (le_of_eq (sym (next p a l)))
        where
          go : (k a t h : ℕ) → t ≤ a → h ≤ t → h + (a - t) ≤ k + a
          go k a t h q r = omega arith

  under_lt : sum_under s p < 2 ^ 64
  under_lt = lt_of_le_of_lt (le_of_eq (ap (λ (z : ℕ). (1073 - p) * z + (table_two - natural s)) log_two_is ∙ ap (λ (z : ℕ). (1073 - p) * 12486629536330718 + (z - natural s)) table_two_is)) (go p (natural s))
    where
      go : (p h : ℕ) → (1073 - p) * 12486629536330718 + (12486629536148167 - h) < 2 ^ 64
      go p h = omega arith

  under_few : (1074 - p) * 1 + error ≤ 184162
  under_few = go p
    where
      go : (p : ℕ) → (1074 - p) * 1 + 183088 ≤ 184162
      go p = omega arith

  -- the scope's quotient, whose exponent is negative
  quotient_under : p < 1074 → quotient (minus p 1074) s (2 ^ 52) ≡ over_ten (negated (sum two (negated (L s (2 ^ 52)))))
  unfolding quotient
  quotient_under l = ap (λ (c : Bool). over_ten (sum (multiple (cond c (pos (p - 1074)) (negsuc (1074 - suc p))) (L 2 1)) (L s (2 ^ 52)))) (lt-leb 1074 p l) ∙ ap (λ (k : ℕ). over_ten (sum (negated (times k (L 2 1))) (L s (2 ^ 52)))) (step p l)
    where
      step : (p : ℕ) → p < 1074 → suc (1074 - suc p) ≡ 1074 - p
      step p l = omega arith

  below_one : p < 1074 → LogarithmAt s p (neg (result (sum_under s p)))
  below_one l =
      let f : Fraction = sum two (negated (L s (2 ^ 52))) in
      let v : Float = result (sum_under s p) in
      record {
        near = subst (λ (z : Fraction). Near 36 (neg v) z) (sym (quotient_under l)) (near_neg 36 v (over_ten f) (total (sum_under s p) ((1074 - p) * 1 + error) f under_lt under_few (less_near l)));
        below = λ (h : s * 2 ^ p < 2 ^ 1126). (signs (sum_under s p) under_lt).1;
        at = λ (h : s * 2 ^ p ≡ 2 ^ 1126). absurd (lt_irrefl (2 ^ 1126) (subst (λ (z : ℕ). z < 2 ^ 1126) h (under l)));
        above = λ (h : 2 ^ 1126 < s * 2 ^ p). absurd (lt_irrefl (2 ^ 1126) (lt_of_lt_of_le h (le_of_lt (under l))));
        size = λ (h : s * 2 ^ p ≡ 2 ^ 1126 → ⊥). (sizes (sum_under s p) under_lt).1;
      }

  -- ---- from 1 on
  abbrev plus : Fraction
  plus = sum (times (p - 1074) (L 2 1)) (L s (2 ^ 52))

  natural_alone : Approximates (2 ^ 54) (natural s) error (L s (2 ^ 52))
  natural_alone = subst (λ (z : ℕ). Approximates (2 ^ 54) z error (L s (2 ^ 52))) (add-zero (natural s)) (natural_known 0 zero-le)

  sum_near : Approximates (2 ^ 54) (sum_from s p) ((p - 1074) * 1 + error) plus
  sum_near = approximates_sum (2 ^ 54) ((p - 1074) * log_two) ((p - 1074) * 1) (times (p - 1074) (L 2 1)) (natural s) error (L s (2 ^ 52)) (approximates_times (2 ^ 54) (p - 1074) log_two 1 (L 2 1) log_two_near) natural_alone

  from_lt : sum_from s p < 2 ^ 64
  from_lt = lt_of_le_of_lt (le_of_eq (ap (λ (z : ℕ). (p - 1074) * z + natural s) log_two_is)) (go p (natural s) high (le_trans natural_small (le_of_eq table_two_is)))
    where
      go : (p h : ℕ) → p ≤ 2097 → h ≤ 12486629536148167 → (p - 1074) * 12486629536330718 + h < 2 ^ 64
      go p h a b = omega arith

  from_few : (p - 1074) * 1 + error ≤ 184162
  from_few = go p high
    where
      go : (p : ℕ) → p ≤ 2097 → (p - 1074) * 1 + 183088 ≤ 184162
      go p h = omega arith

  quotient_from : 1074 ≤ p → quotient (minus p 1074) s (2 ^ 52) ≡ over_ten plus
  unfolding quotient
  quotient_from l = ap (λ (c : Bool). over_ten (sum (multiple (cond c (pos (p - 1074)) (negsuc (1074 - suc p))) (L 2 1)) (L s (2 ^ 52)))) (le-leb 1074 p l)

  over : 1074 ≤ p → 2 ^ 1126 ≤ s * 2 ^ p
  over l = le_trans (pow_mono (sum' p l)) (le_trans (le_of_eq (pow-add 2 52 p)) (mul-le-mul_right (2 ^ p) from))
    where
      sum' : (p : ℕ) → 1074 ≤ p → 1126 ≤ 52 + p
      sum' p l = omega arith

  above_one : 1074 ≤ p → (s * 2 ^ p ≡ 2 ^ 1126 → ⊥) → LogarithmAt s p (result (sum_from s p))
  above_one l ne =
      let v : Float = result (sum_from s p) in
      record {
        near = subst (λ (z : Fraction). Near 36 v z) (sym (quotient_from l)) (total (sum_from s p) ((p - 1074) * 1 + error) plus from_lt from_few sum_near);
        below = λ (h : s * 2 ^ p < 2 ^ 1126). absurd (lt_irrefl (s * 2 ^ p) (lt_of_lt_of_le h (over l)));
        at = λ (h : s * 2 ^ p ≡ 2 ^ 1126). absurd (ne h);
        above = λ (h : 2 ^ 1126 < s * 2 ^ p). (signs (sum_from s p) from_lt).0;
        size = λ (h : s * 2 ^ p ≡ 2 ^ 1126 → ⊥). (sizes (sum_from s p) from_lt).0;
      }

  pub log_at_lem : (s * 2 ^ p ≡ 2 ^ 1126 → ⊥) → LogarithmAt s p (log_at s p)
  unfolding log_at
  log_at_lem ne = go (ltb p 1074) (ltb→lt p 1074) (nltb→le p 1074)
    where
      go : (b : Bool) → (T b → p < 1074) → (T (not b) → 1074 ≤ p) → LogarithmAt s p (cond b (neg (result (sum_under s p))) (result (sum_from s p)))
      go true f g = below_one (f tt)
      go false f g = above_one (g tt) ne

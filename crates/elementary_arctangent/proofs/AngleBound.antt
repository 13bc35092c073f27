-- The angle in units of 2 ^ -62: within 2 ^ -41 of A, up to the diagonal, then up to a right angle, then in the upper half of the plane.
use mathlib.Core.Path.{◌≡◌, refl, sym, ◌∙◌, subst}
use mathlib.Core.Bool.{Bool, true, false, not, cond}
use Prim.Native.Nat.{ℕ, ◌+◌, ◌-◌, ◌*◌, ◌^◌, ◌≤◌, ◌<◌}
use native.Mathlib.Nat.{le_trans, le_of_eq, le_of_lt, lt_of_not-le, not-le_of_lt, mul_comm, mul-pos}
use native.Mathlib.Omega.{arith}
use lib.Dec.{T, leb, ltb, ltb→lt, nltb→le, T_not, not_T, lit≤}
use borrow.Author.Tests.{le-leb, lt-leb}
use lib.Ieee.{Float, nan, inf, fin, binary64, lt, le, fits, of_bits}
use lib.Ieee.Bits.{is_true, is_false}
use lib.Ieee.Fits.{up_pos}
use lib.Ieee.Positive.{num, den, den_pos, positive, le→cross, cross→le}
use Rattle.elementary_fixed_point.specs.Fraction.{sum, negated, times}
use Rattle.elementary_fixed_point.specs.Ratio.{ratio}
use Rattle.elementary_fixed_point.specs.Code.Bounds.{nonnegative, Proper, Approximates, Enclosure}
use Rattle.elementary_fixed_point.proofs.Enclosures.{enclosure_finer, enclosure_widen}
use Rattle.elementary_fixed_point.proofs.FromFloat.{enclosed_upto}
use Rattle.elementary_fixed_point.proofs.RatioBound.{ratio_near, ratio_upto}
use Rattle.elementary_fixed_point.proofs.Approximations.{approximates_more, approximates_sum, approximates_difference}
use Rattle.elementary_arctangent.specs.Angle.{taylor, upto_one, A, upper_half, eighth_turn}
use Rattle.elementary_arctangent.specs.Steps.{series, second, angle_of_half, right_angle, straight_angle, first_octant, first_quadrant}
use Rattle.elementary_arctangent.specs.Code.Tests.{upto_half}
use Rattle.elementary_arctangent.proofs.Tables.{angle_of_half_is, right_angle_is, straight_angle_is, angle_of_half_near, right_angle_near, straight_angle_near}
use Rattle.elementary_arctangent.proofs.SeriesBound.{e, series_le, series_near}
use Rattle.elementary_arctangent.proofs.Doubling.{doubled_upto, doubled_above}
use Rattle.elementary_arctangent.proofs.SecondQuotient.{second-near}

-- from units of 2 ^ -61 to units of 2 ^ -64
eighths : (x k n d : ℕ) → k * 8 ≤ e → Enclosure x (x + k) (n * 2 ^ 61) d → Enclosure (x * 8) (x * 8 + e) (n * 2 ^ 64) d
eighths x k n d h a = enclosure_widen (k * 8) e h (enclosure_finer x k n d (2 ^ 61) 8 a)

pub times_eight : (q : ℕ) → q ≤ 2 ^ 60 → q * 8 ≤ 2 ^ 63
times_eight q h = omega arith

-- ---- n / d up to 1, and q of the units of 2 ^ -61 from below
module _ (n d q : ℕ) (dp : 0 < d) (nd : n ≤ d) (ql : q ≤ 2 ^ 61) (eq : Enclosure q (q + 513) (n * 2 ^ 61) d) where
  first_le : 2 * n ≤ d → q ≤ 2 ^ 60
  first_le h = enclosed_upto (2 ^ 60) dp (halve n d h) eq
    where
      halve : (n d : ℕ) → 2 * n ≤ d → n * 2 ^ 61 ≤ 2 ^ 60 * d
      halve n d h = omega arith

  first_near : 2 * n ≤ d → Approximates (2 ^ 62) (series (q * 8)) 1795921 (upto_one n d)
  unfolding upto_one
  first_near h =
      subst (λ (c : Bool). Approximates (2 ^ 62) (series (q * 8)) 1795921 (cond c (taylor n d) (sum (taylor 1 2) (taylor (2 * n - d) (2 * d + n))))) (sym (le-leb (2 * n) d h))
      (approximates_more (2 ^ 62) (series (q * 8)) 1795920 1795921 (taylor n d) (lit≤ tt)
      (series_near n d (q * 8) dp (le_trans (le_of_eq (mul_comm n 2)) h) (times_eight q (first_le h)) (eighths q 513 n d (lit≤ tt) eq)))

  module _ (more : d < 2 * n) where
    wp : 0 < 2 * d + n
    wp = go d n dp
      where
        go : (d n : ℕ) → 0 < d → 0 < 2 * d + n
        go d n h = omega arith

    es : Enclosure (second q) (second q + 2820) ((2 * n - d) * 2 ^ 61) (2 * d + n)
    es = second-near q ql n d dp (le_of_lt more) eq

    second-le : second q ≤ 2 ^ 60
    second-le = enclosed_upto (2 ^ 60) wp (halve n d nd) es
      where
        halve : (n d : ℕ) → n ≤ d → (2 * n - d) * 2 ^ 61 ≤ 2 ^ 60 * (2 * d + n)
        halve n d h = omega arith

    later-near : Approximates (2 ^ 62) (angle_of_half + series (second q * 8)) 1795921 (upto_one n d)
    unfolding upto_one
    later-near =
        subst (λ (c : Bool). Approximates (2 ^ 62) (angle_of_half + series (second q * 8)) 1795921 (cond c (taylor n d) (sum (taylor 1 2) (taylor (2 * n - d) (2 * d + n))))) (sym (lt-leb (2 * n) d more))
        (approximates_sum (2 ^ 62) angle_of_half 1 (taylor 1 2) (series (second q * 8)) 1795920 (taylor (2 * n - d) (2 * d + n)) angle_of_half_near
        (series_near (2 * n - d) (2 * d + n) (second q * 8) wp (twice n d nd) (times_eight (second q) second-le) (eighths (second q) 2820 (2 * n - d) (2 * d + n) (lit≤ tt) es)))
      where
        twice : (n d : ℕ) → n ≤ d → (2 * n - d) * 2 ≤ 2 * d + n
        twice n d h = omega arith

-- ---- two floats, 0 ≤ a ≤ b
module _ (a b : Float) (h : Proper a b) (fa : T (fits binary64 a)) (fb : T (fits binary64 b)) where
  abbrev n : ℕ
  n = num a * den b

  abbrev d : ℕ
  d = num b * den a

  dp : 0 < d
  dp = mul-pos h.above (den_pos a)

  yes : T (upto_half a b) → 2 * n ≤ d
  unfolding of_bits
  yes = doubled_upto a b h.left h.right fa fb

  no : T (not (upto_half a b)) → d < 2 * n
  unfolding of_bits
  no t = doubled_above a b h.left h.right fa fb (T_not (upto_half a b) t)

  pub ratio_half : T (upto_half a b) → ratio a b ≤ 2 ^ 60
  ratio_half t = first_le n d (ratio a b) dp h.upto (ratio_upto a b h) (ratio_near a b h) (yes t)

  pub second_half : T (not (upto_half a b)) → second (ratio a b) ≤ 2 ^ 60
  second_half t = second-le n d (ratio a b) dp h.upto (ratio_upto a b h) (ratio_near a b h) (no t)

  pub octant_near : Approximates (2 ^ 62) (first_octant a b) 1795921 (upto_one n d)
  unfolding first_octant
  octant_near = go (upto_half a b) yes no
    where
      go : (c : Bool) → (T c → 2 * n ≤ d) → (T (not c) → d < 2 * n) → Approximates (2 ^ 62) (cond c (series (ratio a b * 8)) (angle_of_half + series (second (ratio a b) * 8))) 1795921 (upto_one n d)
      go true f g = first_near n d (ratio a b) dp h.upto (ratio_upto a b h) (ratio_near a b h) (f tt)
      go false f g = later-near n d (ratio a b) dp h.upto (ratio_upto a b h) (ratio_near a b h) (g tt)

  pub octant_le : first_octant a b ≤ right_angle
  unfolding first_octant
  octant_le = go (upto_half a b) ratio_half second_half
    where
      alone : (x : ℕ) → x ≤ 2 ^ 60 → series (x * 8) ≤ right_angle
      alone x l = le_trans (series_le (x * 8) (times_eight x l)) (le_trans (lit≤ tt) (le_of_eq (sym right_angle_is)))

      both : (s k r : ℕ) → k ≡ 2138197195906305896 → r ≡ 7244019458077122842 → s ≤ 5 * 2 ^ 59 → k + s ≤ r
      both s k r p q l = omega arith

      go : (c : Bool) → (T c → ratio a b ≤ 2 ^ 60) → (T (not c) → second (ratio a b) ≤ 2 ^ 60) → cond c (series (ratio a b * 8)) (angle_of_half + series (second (ratio a b) * 8)) ≤ right_angle
      go true f g = alone (ratio a b) (f tt)
      go false f g = both (series (second (ratio a b) * 8)) angle_of_half right_angle angle_of_half_is right_angle_is (series_le (second (ratio a b) * 8) (times_eight (second (ratio a b)) (g tt)))

-- ---- both above 0
nonnegative_of : (a : Float) → T (positive a) → T (nonnegative a)
nonnegative_of nan p = p
nonnegative_of (inf s) p = p
nonnegative_of (fin true m e) p = p
nonnegative_of (fin false m e) p = tt

num_above : (a : Float) → T (positive a) → 0 < num a
num_above nan p = absurd p
num_above (inf s) p = absurd p
num_above (fin true m e) p = absurd p
num_above (fin false m e) p = mul-pos (ltb→lt 0 m p) (up_pos e)

-- which of the two is larger
below_cross : (a b : Float) → T (positive a) → T (positive b) → lt b a ≡ ltb (num b * den a) (num a * den b)
unfolding lt
below_cross nan b pa pb = absurd pa
below_cross (inf s) b pa pb = absurd pa
below_cross (fin true m e) b pa pb = absurd pa
below_cross (fin false m e) nan pa pb = absurd pb
below_cross (fin false m e) (inf s) pa pb = absurd pb
below_cross (fin false m e) (fin true n d) pa pb = absurd pb
below_cross (fin false m e) (fin false n d) pa pb = refl

module _ (a b : Float) (pa : T (positive a)) (pb : T (positive b)) where
  pub above : lt b a ≡ true → le a b ≡ false
  above h = is_false (le a b) (not_T (le a b) (λ (t : T (le a b)). not-le_of_lt (ltb→lt (num b * den a) (num a * den b) (subst T (sym h ∙ below_cross a b pa pb) tt)) (le→cross a b pa pb t)))

  pub not_above : lt b a ≡ false → le a b ≡ true
  not_above h = is_true (le a b) (cross→le a b pa pb (nltb→le (num b * den a) (num a * den b) (subst (λ (t : Bool). T (not t)) (sym h ∙ below_cross a b pa pb) tt)))

  pub proper_yes : T (le a b) → Proper a b
  proper_yes t = record { left = nonnegative_of a pa; right = nonnegative_of b pb; above = num_above b pb; upto = le→cross a b pa pb t }

  swapped : T (not (le a b)) → num b * den a < num a * den b
  swapped t = lt_of_not-le (λ (g : num a * den b ≤ num b * den a). T_not (le a b) t (cross→le a b pa pb g))

  pub proper_no : T (not (le a b)) → Proper b a
  proper_no t = record { left = nonnegative_of b pb; right = nonnegative_of a pa; above = num_above a pa; upto = le_of_lt (swapped t) }

  module _ (fa : T (fits binary64 a)) (fb : T (fits binary64 b)) where
    pub quadrant-le : first_quadrant a b ≤ right_angle
    unfolding first_quadrant
    quadrant-le = go (le a b) (λ (t : T (le a b)). t)
      where
        off : (r x : ℕ) → r - x ≤ r
        off r x = omega arith

        go : (c : Bool) → (T c → T (le a b)) → cond c (first_octant a b) (right_angle - first_octant b a) ≤ right_angle
        go true f = octant_le a b (proper_yes (f tt)) fa fb
        go false f = off right_angle (first_octant b a)

    pub quadrant-near : Approximates (2 ^ 62) (first_quadrant a b) 1795922 (A (num a * den b) (num b * den a))
    unfolding first_quadrant A
    quadrant-near = go (le a b) (λ (t : T (le a b)). t) (λ (t : T (not (le a b))). t)
      where
        m : ℕ
        m = num a * den b

        k : ℕ
        k = num b * den a

        go : (c : Bool) → (T c → T (le a b)) → (T (not c) → T (not (le a b))) → Approximates (2 ^ 62) (cond c (first_octant a b) (right_angle - first_octant b a)) 1795922 (cond (leb m k) (upto_one m k) (sum (times 2 eighth_turn) (negated (upto_one k m))))
        go true f g =
            subst (λ (c : Bool). Approximates (2 ^ 62) (first_octant a b) 1795922 (cond c (upto_one m k) (sum (times 2 eighth_turn) (negated (upto_one k m))))) (sym (le-leb m k (proper_yes (f tt)).upto))
            (approximates_more (2 ^ 62) (first_octant a b) 1795921 1795922 (upto_one m k) (lit≤ tt) (octant_near a b (proper_yes (f tt)) fa fb))
        go false f g =
            subst (λ (c : Bool). Approximates (2 ^ 62) (right_angle - first_octant b a) 1795922 (cond c (upto_one m k) (sum (times 2 eighth_turn) (negated (upto_one k m))))) (sym (lt-leb m k (swapped (g tt))))
            (approximates_difference (2 ^ 62) right_angle 1 (times 2 eighth_turn) (first_octant b a) 1795921 (upto_one k m) (octant_le b a (proper_no (g tt)) fb fa) right_angle_near (octant_near b a (proper_no (g tt)) fb fa))

-- ---- the left side
pub turned_le : (left : Bool) (s : ℕ) → s ≤ right_angle → cond left (straight_angle - s) s ≤ straight_angle
turned_le true s h = off straight_angle s
  where
    off : (r x : ℕ) → r - x ≤ r
    off r x = omega arith
turned_le false s h = le_trans h right_below
  where
    right_below : right_angle ≤ straight_angle
    right_below = le_trans (le_of_eq right_angle_is) (le_trans (lit≤ tt) (le_of_eq (sym straight_angle_is)))

pub turned_near : (left : Bool) (s n d : ℕ) → s ≤ right_angle → Approximates (2 ^ 62) s 1795922 (A n d) → Approximates (2 ^ 62) (cond left (straight_angle - s) s) 1795923 (upper_half left n d)
unfolding upper_half
turned_near true s n d h w = approximates_difference (2 ^ 62) straight_angle 1 (times 4 eighth_turn) s 1795922 (A n d) (turned_le false s h) straight_angle_near w
turned_near false s n d h w = approximates_more (2 ^ 62) s 1795922 1795923 (A n d) (lit≤ tt) w

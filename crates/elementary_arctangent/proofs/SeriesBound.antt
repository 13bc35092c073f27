-- The series in fixed point, at an argument up to 1/2 known from below to within 22,560 units of 2 ^ -64: how far it is from the Taylor sum.
use mathlib.Core.Path.{◌≡◌, refl, sym, ap, ◌∙◌}
use mathlib.Core.List.{List, [], ◌∷◌}
use Prim.Native.Nat.{ℕ, ◌+◌, ◌-◌, ◌*◌, ◌^◌, ◌≤◌, ◌<◌}
use native.Mathlib.Nat.{le_refl, le_trans, le_of_eq, lt_of_le_of_lt, le-add_right, add-le-add, mul-one, mul-div_cancel}
use native.Mathlib.Omega.{arith}
use lib.Dec.{T, lit<, lit≤}
use lib.Pow.{pow_pos}
use Rattle.elementary_fixed_point.specs.Series.{factorial, terms, reciprocal}
use Rattle.elementary_fixed_point.specs.Product.{hi, horner, tabulate}
use Rattle.elementary_fixed_point.specs.Code.Bounds.{below, Approximates, Enclosure}
use Rattle.elementary_fixed_point.proofs.Enclosures.{enclosure_is, enclosure_widen, enclosure_power, hi_le, hi_mono}
use Rattle.elementary_fixed_point.proofs.Chains.{horner_lt}
use Rattle.elementary_fixed_point.proofs.PowerSums.{pow_one, enclosure-terms}
use Rattle.elementary_fixed_point.proofs.Tails.{enclosure-longer}
use Rattle.elementary_fixed_point.proofs.Approximations.{enclosures_approximate}
use Rattle.elementary_arctangent.specs.Angle.{taylor}
use Rattle.elementary_arctangent.specs.Steps.{coefficients, series}
use Rattle.elementary_arctangent.specs.Code.Tables.{added, subtracted}
use Rattle.elementary_arctangent.proofs.Tables.{added_rounded, subtracted_rounded, added_below, subtracted_below}

-- the argument's error; its powers' are then 2 e + 2, 3 e + 4 and 4 e + 6
abbrev pub e : ℕ
e = 22560

abbrev pub fourth : ℕ → ℕ
fourth x = hi (hi x x) (hi x x)

abbrev pub plus_at : ℕ → ℕ
plus_at x = hi x (horner (fourth x) added)

abbrev pub minus_at : ℕ → ℕ
minus_at x = hi (hi x (hi x x)) (horner (fourth x) subtracted)

-- ---- the sizes, for an x up to 1/2
module _ (x : ℕ) (h : x ≤ 2 ^ 63) where
  square_le : hi x x ≤ 2 ^ 62
  square_le = hi_mono x x (2 ^ 63) (2 ^ 63) h h

  fourth_le : fourth x ≤ 2 ^ 60
  fourth_le = hi_mono (hi x x) (hi x x) (2 ^ 62) (2 ^ 62) square_le square_le

  pub fourth_lt : fourth x < 2 ^ 63
  fourth_lt = lt_of_le_of_lt fourth_le (lit< tt)

  abbrev tail_of : List ℕ → List ℕ
  tail_of [] = []
  tail_of (c ∷ cs) = cs

  -- what follows a chain's first coefficient is at most w
  rest_le : (cs : List ℕ) → T (below (2 ^ 63) cs) → hi (horner (fourth x) cs) (fourth x) ≤ 2 ^ 60
  rest_le cs t = le_trans (hi_le (horner (fourth x) cs) (fourth x) (horner_lt (fourth x) cs fourth_lt t)) fourth_le

  -- what is taken off is no more than what is added
  pub minus_le : minus_at x ≤ plus_at x
  unfolding horner below coefficients tabulate
  minus_le =
      hi_mono (hi x (hi x x)) (horner (fourth x) subtracted) x (horner (fourth x) added) cube-le
      (le_trans (add-le-add (le_refl 1537228672809129301) (rest_le (tail_of subtracted) tt)) (le_trans (lit≤ tt) (le-add_right (2 ^ 62) (hi (horner (fourth x) (tail_of added)) (fourth x)))))
    where
      cube-le : hi x (hi x x) ≤ x
      cube-le = le_trans (hi_mono x (hi x x) x (2 ^ 64) (le_refl x) (le_trans square_le (lit≤ tt))) (le_of_eq (mul-div_cancel x (pow_pos 64)))

  -- at most 5/8
  pub series_le : series x ≤ 5 * 2 ^ 59
  unfolding series horner below coefficients tabulate
  series_le = le_trans (less (plus_at x) (minus_at x)) (hi_mono x (horner (fourth x) added) (2 ^ 63) (2 ^ 62 + 2 ^ 60) h (add-le-add (le_refl (2 ^ 62)) (rest_le (tail_of added) tt)))
    where
      less : (a b : ℕ) → a - b ≤ a
      less a b = omega arith

-- ---- the terms that the tables leave out, at 1/2
plus_rest : terms (reciprocal 81) 81 4 1 2 12 37 * 2 ^ 62 ≤ 961117 * (factorial 81 * 2 ^ 81)
unfolding terms reciprocal factorial
plus_rest = lit≤ tt

minus_rest : terms (reciprocal 81) 81 4 1 2 11 39 * 2 ^ 62 ≤ 228026 * (factorial 81 * 2 ^ 81)
unfolding terms reciprocal factorial
minus_rest = lit≤ tt

-- ---- the sums
module _ (a b x : ℕ) (bp : 0 < b) (half : a * 2 ≤ b) (xt : x ≤ 2 ^ 63) (ex : Enclosure x (x + e) (a * 2 ^ 64) b) where
  xl : x < 2 ^ 64
  xl = lt_of_le_of_lt xt (lit< tt)

  x2l : hi x x < 2 ^ 64
  x2l = lt_of_le_of_lt (square_le x xt) (lit< tt)

  x3l : hi x (hi x x) < 2 ^ 64
  x3l = lt_of_le_of_lt (hi_le x (hi x x) xl) x2l

  e1 : Enclosure x (x + e) (a ^ 1 * 2 ^ 64) (b ^ 1)
  e1 = enclosure_is (a ^ 1 * 2 ^ 64) (b ^ 1) (ap (λ (z : ℕ). z * 2 ^ 64) (sym (pow_one a))) (sym (pow_one b)) ex

  e2 : Enclosure (hi x x) (hi x x + (2 * e + 2)) (a ^ 2 * 2 ^ 64) (b ^ 2)
  e2 = enclosure_power a b e e 1 1 64 64 64 refl xl xl (lit≤ tt) e1 e1

  e3 : Enclosure (hi x (hi x x)) (hi x (hi x x) + (3 * e + 4)) (a ^ 3 * 2 ^ 64) (b ^ 3)
  e3 = enclosure_power a b e (2 * e + 2) 1 2 64 64 64 refl xl x2l (lit≤ tt) e1 e2

  e4 : Enclosure (fourth x) (fourth x + (4 * e + 6)) (a ^ 4 * 2 ^ 64) (b ^ 4 * 1)
  e4 = enclosure_is (a ^ 4 * 2 ^ 64) (b ^ 4 * 1) refl (sym (mul-one (b ^ 4))) (enclosure_power a b (2 * e + 2) (2 * e + 2) 2 2 64 64 64 refl x2l x2l (lit≤ tt) e2 e2)

  most : a * 2 ≤ 1 * b
  most = le_trans half (le_of_eq (sym (native.Mathlib.Nat.one-mul b)))

  -- nine terms in a chain, then the twelve that it leaves out
  plus_near : Enclosure (plus_at x) (plus_at x + 1795920) ((taylor a b).plus * 2 ^ 62) (factorial 81 * b ^ 81)
  unfolding coefficients tabulate
  plus_near =
      enclosure-longer (reciprocal 81) 81 4 a b 1 2 most (factorial 81) 834803 (2 ^ 62) 961117 9 12 1 (lit< tt) (lit≤ tt) plus_rest
      (enclosure-terms (reciprocal 81) (factorial 81) 81 4 a b 1 (fourth x) (4 * e + 6) (lit< tt) (fourth_lt x xt) e4 bp e 1 64 62 62 added xl (lit≤ tt) (lit≤ tt) refl (lit≤ tt) added_below added_rounded e1)

  -- and eleven
  minus_near : Enclosure (minus_at x) (minus_at x + 1107953) ((taylor a b).minus * 2 ^ 62) (factorial 81 * b ^ 81)
  unfolding coefficients tabulate
  minus_near =
      enclosure-longer (reciprocal 81) 81 4 a b 1 2 most (factorial 81) 879927 (2 ^ 62) 228026 9 11 3 (lit< tt) (lit≤ tt) minus_rest
      (enclosure-terms (reciprocal 81) (factorial 81) 81 4 a b 1 (fourth x) (4 * e + 6) (lit< tt) (fourth_lt x xt) e4 bp (3 * e + 4) 3 64 62 62 subtracted x3l (lit≤ tt) (lit≤ tt) refl (lit≤ tt) subtracted_below subtracted_rounded e3)

  -- within 2 ^ -41
  pub series_near : Approximates (2 ^ 62) (series x) 1795920 (taylor a b)
  unfolding series
  series_near = enclosures_approximate (2 ^ 62) (plus_at x) (minus_at x) 1795920 (taylor a b) (minus_le x xt) plus_near (enclosure_widen 1107953 1795920 (lit≤ tt) minus_near)

-- ---- what the code asks
pub series_steps : (x s t w a b p n : ℕ) → s ≡ hi x x → t ≡ hi x s → w ≡ hi s s → a ≡ horner w added → b ≡ horner w subtracted → p ≡ hi x a → n ≡ hi t b → (p ≡ plus_at x) × (n ≡ minus_at x)
series_steps x s t w a b p n es et ew ea eb ep en = (cc, cc)

pub fourth_asked : (x s w : ℕ) → x ≤ 2 ^ 63 → s ≡ hi x x → w ≡ hi s s → w < 2 ^ 63
fourth_asked x s w h es ew = lt_of_le_of_lt (le_of_eq (ew ∙ ap (λ (z : ℕ). hi z z) es)) (fourth_lt x h)

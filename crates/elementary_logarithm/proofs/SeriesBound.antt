-- The natural logarithm of m by the table: how far it is below L(m), and that it is at most the table's logarithm of 2.
use mathlib.Core.Path.{refl, sym, ap, ◌∙◌}
use mathlib.Core.List.{List, [], ◌∷◌}
use Prim.Native.Nat.{ℕ, ◌+◌, ◌-◌, ◌*◌, ◌/◌, ◌^◌, ◌≤◌, ◌<◌, zero-le}
use native.Mathlib.Nat.{le_refl, le_trans, le_of_eq, lt_of_le_of_lt, mul-one, mul_right_comm, mul-le-mul_right, add-mul, add-le-add, div-mul-le_self}
use native.Mathlib.Omega.{arith}
use lib.Dec.{T, lit<, lit≤}
use Rattle.elementary_fixed_point.specs.Series.{factorial, terms, reciprocal}
use Rattle.elementary_fixed_point.specs.Product.{hi, horner, tabulate}
use Rattle.elementary_fixed_point.specs.Code.Bounds.{below, Enclosure}
use Rattle.elementary_fixed_point.proofs.Enclosures.{enclosure_is, enclosure_power, hi_mono}
use Rattle.elementary_fixed_point.proofs.Chains.{rounded}
use Rattle.elementary_fixed_point.proofs.PowerSums.{pow_one, enclosure-terms}
use Rattle.elementary_fixed_point.proofs.Tails.{enclosure-longer}
use Rattle.elementary_logarithm.specs.Series.{L}
use Rattle.elementary_logarithm.specs.Steps.{table, natural_at, table_two}
use Rattle.elementary_logarithm.specs.Code.Parts.{odd_terms}

-- the argument is known to within δ units of 2 ^ -64, its square then to within 2 δ + 2
abbrev pub δ : ℕ
δ = 3080

-- ---- the table is its rule's, which is one computed test
table_rounded : T (rounded (reciprocal 41) (factorial 41) 2 1 (2 ^ 62) 1 table)
unfolding table tabulate rounded reciprocal factorial
table_rounded = tt

pub table_below : T (below (2 ^ 63) table)
unfolding table tabulate below
table_below = tt

-- the terms left out, at w = 1 / 3
tail_small : terms (reciprocal 41) 41 2 1 3 11 21 * 2 ^ 62 ≤ 23370000 * (factorial 41 * 3 ^ 41)
unfolding terms reciprocal factorial
tail_small = lit≤ tt

-- ---- half of L, in units of 2 ^ -62
module _ (a b x : ℕ) (bp : 0 < b) (third : a * 3 ≤ b) (xt : x ≤ 2 ^ 63) (ex : Enclosure x (x + δ) (a * 2 ^ 64) b) where
  xl : x < 2 ^ 64
  xl = lt_of_le_of_lt xt (lit< tt)

  e1 : Enclosure x (x + δ) (a ^ 1 * 2 ^ 64) (b ^ 1)
  e1 = enclosure_is (a ^ 1 * 2 ^ 64) (b ^ 1) (ap (λ (z : ℕ). z * 2 ^ 64) (sym (pow_one a))) (sym (pow_one b)) ex

  x2l : hi x x < 2 ^ 63
  x2l = lt_of_le_of_lt (hi_mono x x (2 ^ 63) (2 ^ 63) xt xt) (lit< tt)

  e2 : Enclosure (hi x x) (hi x x + (δ + δ + 2)) (a ^ 2 * 2 ^ 64) (b ^ 2 * 1)
  e2 = enclosure_is (a ^ 2 * 2 ^ 64) (b ^ 2 * 1) refl (sym (mul-one (b ^ 2))) (enclosure_power a b δ δ 1 1 64 64 64 refl xl xl (lit≤ tt) e1 e1)

  abbrev half : ℕ
  half = hi x (horner (hi x x) table)

  pub half_near : Enclosure half (half + 23435000) (odd_terms a b 21 * 2 ^ 62) (factorial 41 * b ^ 41)
  unfolding table tabulate
  half_near =
      enclosure-longer (reciprocal 41) 41 2 a b 1 3 (le_trans third (le_of_eq (sym (native.Mathlib.Nat.one-mul b)))) (factorial 41) 65000 (2 ^ 62) 23370000 10 11 1 (lit< tt) (lit≤ tt) tail_small
      (Rattle.elementary_fixed_point.proofs.Enclosures.enclosure_widen 64732 65000 (lit≤ tt)
      (enclosure-terms (reciprocal 41) (factorial 41) 41 2 a b 1 (hi x x) (δ + δ + 2) (lit< tt) x2l e2 bp δ 1 64 62 62 table xl (lit≤ tt) (lit≤ tt) refl (lit≤ tt) table_below table_rounded e1))

-- ---- L(s / 2 ^ 52) in units of 2 ^ -54
abbrev pub error : ℕ
error = 183088

pub natural_near : (s x : ℕ) → s ≤ 2 ^ 53 → x ≤ 2 ^ 63 → Enclosure x (x + δ) ((s - 2 ^ 52) * 2 ^ 64) (s + 2 ^ 52) → Enclosure (natural_at x) (natural_at x + error) ((L s (2 ^ 52)).plus * 2 ^ 54) (L s (2 ^ 52)).over
unfolding natural_at
natural_near s x sl xl ex = record {
  low = lo (n * O) l (le_trans (le_of_eq (mul_right_comm n O 128)) (le_trans (mul-le-mul_right O (div-mul-le_self H (2 ^ 7))) lh.low));
  high = le_trans (hi' (n * O) O l (le_trans lh.high (le_trans (mul-le-mul_right O (top H)) (le_of_eq (add-mul (n * 128) 23435127 O ∙ ap (λ (z : ℕ). z + 23435127 * O) (mul_right_comm n 128 O)))))) (le_of_eq (sym (add-mul n error O)));
}
  where
    O : ℕ
    O = factorial 41 * (s + 2 ^ 52) ^ 41

    H : ℕ
    H = hi x (horner (hi x x) table)

    n : ℕ
    n = hi x (horner (hi x x) table) / 2 ^ 7

    l : ℕ
    l = odd_terms (s - 2 ^ 52) (s + 2 ^ 52) 21

    bp : (s : ℕ) → 0 < s + 2 ^ 52
    bp s = omega arith

    third : (s : ℕ) → s ≤ 2 ^ 53 → (s - 2 ^ 52) * 3 ≤ s + 2 ^ 52
    third s h = omega arith

    lh : Enclosure H (H + 23435000) (l * 2 ^ 62) O
    lh = half_near (s - 2 ^ 52) (s + 2 ^ 52) x (bp s) (third s sl) xl ex

    lo : (ho l : ℕ) → ho * 128 ≤ l * 2 ^ 62 → ho ≤ 2 * l * 2 ^ 54
    lo ho l h = omega arith

    top : (H : ℕ) → H + 23435000 ≤ H / 2 ^ 7 * 128 + 23435127
    top H = omega arith

    hi' : (ho o l : ℕ) → l * 2 ^ 62 ≤ ho * 128 + 23435127 * o → 2 * l * 2 ^ 54 ≤ ho + 183088 * o
    hi' ho o l h = omega arith

-- ---- a larger argument gives no less
horner_mono : (w z : ℕ) (cs : List ℕ) → w ≤ z → horner w cs ≤ horner z cs
unfolding horner
horner_mono w z [] h = zero-le
horner_mono w z (c ∷ cs) h = add-le-add (le_refl c) (hi_mono (horner w cs) w (horner z cs) z (horner_mono w z cs h) h)

pub natural_upto : (x : ℕ) → x ≤ 2 ^ 64 / 3 → natural_at x ≤ table_two
unfolding natural_at table_two
natural_upto x h = cut (hi x (horner (hi x x) table)) (hi X (horner (hi X X) table)) (hi_mono x (horner (hi x x) table) X (horner (hi X X) table) h (horner_mono (hi x x) (hi X X) table (hi_mono x x X X h h)))
  where
    X : ℕ
    X = 2 ^ 64 / 3

    cut : (a b : ℕ) → a ≤ b → a / 2 ^ 7 ≤ b / 2 ^ 7
    cut a b h = omega arith

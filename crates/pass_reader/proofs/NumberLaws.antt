-- Laws of numbers: the loop over digits, its bounds, and what a number's digits are.
use mathlib.Core.Path.{◌≡◌, refl, sym, ◌∙◌}
use mathlib.Core.Bool.{Bool, true, false, cond, ◌&&◌}
use mathlib.Core.List.{List, [], ◌∷◌}
use Rattle.std.specs.Prelude.{Some, None}
use Prim.Native.Nat.{ℕ, suc, ◌+◌, ◌*◌, ◌^◌, ◌≤◌, ◌<◌}
use native.Mathlib.Numerals.{add-one}
use native.Mathlib.Nat.{pow-suc, pow-le-pow_right, mul-le-mul, mul-le-mul_right, mul_assoc, pow-succ', pow-zero, mul-one, lt_of_lt_of_le, add-mul}
use native.Mathlib.Omega.{arith}
use lib.Dec.{leb}
use lib.ListN.{length, get_or, drop}
use borrow.Author.Tests.{lt-ltb, le-ltb, ltb-true, leb-true}
use Rattle.sequences.specs.Folds.{fold, every}
use Rattle.sequences.proofs.FoldLaws.{fold_end, every_next, every_stop, every_end}
use Rattle.pass_reader.specs.Numbers.{digit_value, is_digit, digit_behind, number_of, decimal_shape, decimal_of}
use Rattle.std.proofs.lemmas.Bool.{and_parts}

-- one digit more of a base up to 16, and up to 12 of them
pub grown : (base v d i : ℕ) → base ≤ 16 → v < 16 ^ i → d < base → v * base + d < 16 ^ (i + 1)
grown base v d i b h k =
    let m : (v + 1) * base ≤ 16 ^ i * 16 = mul-le-mul {n₁ = v + 1} {m₁ = base} {n₂ = 16 ^ i} {m₂ = 16} (omega arith) b in
    let e : (v + 1) * base ≡ v * base + base = add-mul v 1 base ∙ (let z : 1 * base ≡ base = omega arith in rw z) in
    rw (add-one, pow-suc) (omega arith)

pub short : (x i : ℕ) → i ≤ 12 → x < 16 ^ i → x < 281474976710657
short x i h l = omega (arith, pow-le-pow_right {n = 16} (omega arith) {i = i} {j = 12} h)

-- the loop: a byte that is no digit, and the end
module _ (base : ℕ) (s : List ℕ) (i : ℕ) where
  pub number_stops : i < length s → every (is_digit base) (drop i s) ≡ every (is_digit base) s → base ≤ digit_value (get_or s i 0) → None ≡ number_of base s
  unfolding number_of is_digit
  number_stops h e d =
      let n : is_digit base (get_or s i 0) ≡ false = le-ltb _ _ d in
      let z : every (is_digit base) s ≡ false = sym e ∙ every_stop s i (is_digit base) 0 h n in
      rw z

  pub number_ends : (v : ℕ) → length s ≤ i → every (is_digit base) (drop i s) ≡ every (is_digit base) s
      → fold (digit_behind base) v (drop i s) ≡ fold (digit_behind base) 0 s → Some v ≡ number_of base s
  unfolding number_of
  number_ends v h e w =
      let z : every (is_digit base) s ≡ true = sym e ∙ every_end s i (is_digit base) h in
      let u : v ≡ fold (digit_behind base) 0 s = sym (fold_end s i (digit_behind base) v h) ∙ w in
      rw (z, u)

  pub digit_goes_on : i < length s → digit_value (get_or s i 0) < base → every (is_digit base) (drop (i + 1) s) ≡ every (is_digit base) (drop i s)
  unfolding is_digit
  digit_goes_on h d = every_next s i (is_digit base) 0 h (lt-ltb _ _ d)

-- what a number says of its digits
module _ (base : ℕ) (s : List ℕ) where
  pub number_digits : (v : ℕ) → Some v ≡ number_of base s → (every (is_digit base) s ≡ true) × (v ≡ fold (digit_behind base) 0 s)
  unfolding number_of
  number_digits v e = go (every (is_digit base) s) refl e
    where
      go : (t : Bool) → every (is_digit base) s ≡ t → Some v ≡ cond t (Some (fold (digit_behind base) 0 s)) None
          → (every (is_digit base) s ≡ true) × (v ≡ fold (digit_behind base) 0 s)
      go true a d = (a, cc)
      go false a d = absurd (let z : ◌≡◌ {A = ℕ} 0 1 = cc in omega arith)

  pub no_number : None ≡ number_of base s → every (is_digit base) s ≡ false
  unfolding number_of
  no_number e = go (every (is_digit base) s) refl e
    where
      go : (t : Bool) → every (is_digit base) s ≡ t → None ≡ cond t (Some (fold (digit_behind base) 0 s)) None → every (is_digit base) s ≡ false
      go true a d = absurd (let z : ◌≡◌ {A = ℕ} 0 1 = cc in omega arith)
      go false a d = a

-- a number lies below the base to the power of its digits
value_below : (base : ℕ) (s : List ℕ) (v : ℕ) → every (is_digit base) s ≡ true → fold (digit_behind base) v s < (v + 1) * base ^ length s
unfolding every fold is_digit
value_below base [] v e = rw (pow-zero, mul-one) (omega arith)
value_below base (b ∷ r) v e =
    let h : digit_value b < base = ltb-true _ _ (and_parts (is_digit base b) _ e).0 in
    let w : (v + 1) * base ≡ v * base + base = add-mul v 1 base ∙ (let z : 1 * base ≡ base = omega arith in rw z) in
    let l : v * base + digit_value b + 1 ≤ (v + 1) * base = omega arith in
    let m : (v * base + digit_value b + 1) * base ^ length r ≤ (v + 1) * base ^ suc (length r) = rw (pow-succ', ← mul_assoc) (mul-le-mul_right (base ^ length r) l) in
    lt_of_lt_of_le (value_below base r (v * base + digit_value b) (and_parts (is_digit base b) _ e).1) m

pub number_below : (base : ℕ) (s : List ℕ) (v : ℕ) → Some v ≡ number_of base s → v < base ^ length s
number_below base s v e =
    let d = number_digits base s v e in
    let l : fold (digit_behind base) 0 s < (0 + 1) * base ^ length s = value_below base s 0 d.0 in
    let u = d.1 in
    omega arith

-- the shape of a decimal number
pub shape_short : (s : List ℕ) → decimal_shape s ≡ true → length s ≤ 12
unfolding decimal_shape
shape_short s e = leb-true _ _ (and_parts (leb 1 (length s)) _ (and_parts (leb 1 (length s) && leb (length s) 12) _ e).0).1

pub unshaped : (s : List ℕ) → decimal_shape s ≡ false → None ≡ decimal_of s
unfolding decimal_of
unshaped s e = rw e

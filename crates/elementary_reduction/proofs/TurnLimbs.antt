-- The remainder by the turn from the columns of a difference: one turn less, and limbs that are too large by twenty bits.
use mathlib.Core.Path.{◌≡◌, refl, sym, ap, ◌∙◌, subst}
use Prim.Native.Nat.{ℕ, ◌+◌, ◌-◌, ◌*◌, ◌/◌, ◌%◌, ◌^◌, ◌≤◌, ◌<◌}
use native.Mathlib.Nat.{lt_of_lt_of_le, mul-le-mul, mul-le-mul_left, mod-lt, mod-eq_of_lt, mul-add-mod_self_right, add-mod_left, div-add-mod'}
use native.Mathlib.Omega.{arith}
use lib.Dec.{lit<, lit≤}
use lib.Pow.{pow_pos}
use Rattle.elementary_reduction.specs.Reduction.{turn}
use Rattle.elementary_reduction.specs.Code.Limbs.{limbs, RestLimbs}
use Rattle.elementary_reduction.proofs.Columns.{four_columns, limbs_times, limbs_add, limbs_below}

abbrev pub B : ℕ
B = 2 ^ 41

-- the turn's limbs
abbrev pub T0 : ℕ
T0 = 589619687492

abbrev pub T1 : ℕ
T1 = 1692989091955

abbrev pub T2 : ℕ
T2 = 899869673868

abbrev pub T3 : ℕ
T3 = 863554413089

turn_limbs : turn ≡ limbs B T0 T1 T2 T3
unfolding turn limbs
turn_limbs = refl

digit : (n : ℕ) → n % B < B
digit n = mod-lt n (pow_pos 41)

most_digit : (x : ℕ) → x < 2 ^ 41 → x ≤ 2 ^ 41 - 1
most_digit x h = omega arith

-- what `column` answers, as the law of a column has it
column_is : (a loan back x t : ℕ) → x ≤ loan * (2 ^ 41 - 1) → t ≡ a + loan * (2 ^ 41 - 1) + back - x → a + loan * B + back ≡ x + loan + t / B * B + t % B
column_is a loan back x t h d = go a loan back x (t / B * B) (t % B) h (div-add-mod' t B ∙ d)
  where
    go : (a loan back x y z : ℕ) → x ≤ loan * (2 ^ 41 - 1) → y + z ≡ a + loan * (2 ^ 41 - 1) + back - x → a + loan * B + back ≡ x + loan + y + z
    go a loan back x y z h e = omega arith

-- ---- one turn less
-- what a column gives back
pub few_back : (w back x s : ℕ) → w < 2 ^ 41 → back ≤ 2 → s ≡ w + 1 * (2 ^ 41 - 1) + back - x → s / B ≤ 2
few_back w back x s f g d = go w back x (s / B) (s % B) f g (div-add-mod' s B ∙ d)
  where
    go : (w back x k r : ℕ) → w < 2 ^ 41 → back ≤ 2 → k * B + r ≡ w + 1 * (2 ^ 41 - 1) + back - x → k ≤ 2
    go w back x k r f g e = omega arith

module _ (w0 w1 w2 w3 : ℕ) (f0 : w0 < 2 ^ 41) (f1 : w1 < 2 ^ 41) (f2 : w2 < 2 ^ 41) (f3 : w3 < 2 ^ 40) (s0 s1 s2 : ℕ) (d0 : s0 ≡ w0 + 1 * (2 ^ 41 - 1) + 1 - T0) (d1 : s1 ≡ w1 + 1 * (2 ^ 41 - 1) + s0 / B - T1) (d2 : s2 ≡ w2 + 1 * (2 ^ 41 - 1) + s1 / B - T2) where
  back : s2 / B ≤ 2
  back = few_back w2 (s1 / B) T2 s2 f2 (few_back w1 (s0 / B) T1 s1 f1 (few_back w0 1 T0 s0 f0 (lit≤ tt) d0) d1) d2

  -- with g more in the top limb the difference has h there
  less : (g h : ℕ) → w3 + g + s2 / B ≡ T3 + 1 + h → limbs B w0 w1 w2 (w3 + g) ≡ turn + limbs B (s0 % B) (s1 % B) (s2 % B) h
  less g h e =
      four_columns B 1 w0 w1 w2 (w3 + g) T0 T1 T2 T3 (s0 / B) (s1 / B) (s2 / B) (s0 % B) (s1 % B) (s2 % B) h (column_is w0 1 1 T0 s0 (lit≤ tt) d0) (column_is w1 1 (s0 / B) T1 s1 (lit≤ tt) d1)
      (column_is w2 1 (s1 / B) T2 s2 (lit≤ tt) d2) e
      ∙ ap (λ (z : ℕ). z + limbs B (s0 % B) (s1 % B) (s2 % B) h) (sym turn_limbs)

  -- where the top column has too little, the number is below the turn
  pub stays : w3 + s2 / B ≤ T3 → RestLimbs (limbs B w0 w1 w2 w3) w0 w1 w2 w3
  stays h = record { is = sym (mod-eq_of_lt below); fits0 = f0; fits1 = f1; fits2 = f2; fits3 = f3 }
    where
      g : ℕ
      g = T3 - (w3 + s2 / B)

      fill : (c k : ℕ) → c + k ≤ T3 → c + (T3 - (c + k) + 1) + k ≡ T3 + 1 + 0
      fill c k h = omega arith

      more : (g b : ℕ) → (g + 1) * b ≡ g * b + b
      more g b = omega arith

      lift : (g : ℕ) → (g + 1) * B * B * B ≡ g * B * B * B + B * B * B
      lift g = ap (λ (z : ℕ). z * B * B) (more g B) ∙ ap (λ (z : ℕ). z * B) (spread (g * B)) ∙ spread² (g * B * B)
        where
          spread : (x : ℕ) → (x + B) * B ≡ x * B + B * B
          spread x = omega arith

          spread² : (x : ℕ) → (x + B * B) * B ≡ x * B + B * B * B
          spread² x = omega arith

      short : (w x y t s : ℕ) → w + (x + y) ≡ t + s → s < y → w < t
      short w x y t s e h = omega arith

      below : limbs B w0 w1 w2 w3 < turn
      below =
          short (limbs B w0 w1 w2 w3) (g * B * B * B) (B * B * B) turn (limbs B (s0 % B) (s1 % B) (s2 % B) 0)
          (ap (λ (z : ℕ). limbs B w0 w1 w2 w3 + z) (sym (lift g)) ∙ sym (limbs_add B w0 w1 w2 w3 (g + 1)) ∙ less (g + 1) 0 (fill w3 (s2 / B) h))
          (limbs_below B (s0 % B) (s1 % B) (s2 % B) 0 1 (digit s0) (digit s1) (digit s2) (lit< tt))

  pub goes : T3 < w3 + s2 / B → RestLimbs (limbs B w0 w1 w2 w3) (s0 % B) (s1 % B) (s2 % B) (w3 + s2 / B - T3 - 1)
  goes h = record {
    is = sym (ap (λ (z : ℕ). z % turn) once ∙ add-mod_left turn rest ∙ mod-eq_of_lt (under turn rest (subst (λ (z : ℕ). z < 2 * turn) once twice)));
    fits0 = digit s0;
    fits1 = digit s1;
    fits2 = digit s2;
    fits3 = few w3 (s2 / B) f3 back;
  }
    where
      rest : ℕ
      rest = limbs B (s0 % B) (s1 % B) (s2 % B) (w3 + s2 / B - T3 - 1)

      none : (x : ℕ) → x ≡ x + 0
      none x = omega arith

      top : (c k : ℕ) → T3 < c + k → c + 0 + k ≡ T3 + 1 + (c + k - T3 - 1)
      top c k h = omega arith

      once : limbs B w0 w1 w2 w3 ≡ turn + rest
      once = ap (limbs B w0 w1 w2) (none w3) ∙ less 0 (w3 + s2 / B - T3 - 1) (top w3 (s2 / B) h)

      twice : limbs B w0 w1 w2 w3 < 2 * turn
      twice = lt_of_lt_of_le (limbs_below B w0 w1 w2 w3 (2 ^ 40) f0 f1 f2 f3) (unfold turn in lit≤ tt)

      under : (t w : ℕ) → t + w < 2 * t → w < t
      under t w h = omega arith

      few : (c k : ℕ) → c < 2 ^ 40 → k ≤ 2 → c + k - T3 - 1 < 2 ^ 40
      few c k h g = omega arith

-- ---- limbs that are too large
-- the quotient of the top limbs
pub quotient : (a q : ℕ) → a < 2 ^ 60 → q ≡ a / (T3 + 1) → q ≤ 1335088
quotient a q f d = go a q (a % (T3 + 1)) f (ap (λ (z : ℕ). z * (T3 + 1) + a % (T3 + 1)) d ∙ div-add-mod' a (T3 + 1))
  where
    go : (a q r : ℕ) → a < 2 ^ 60 → q * (T3 + 1) + r ≡ a → q ≤ 1335088
    go a q r f e = omega arith

pub taken : (q x : ℕ) → q ≤ 1335088 → x < 2 ^ 41 → q * x ≤ 2097152 * (2 ^ 41 - 1)
taken q x f h = mul-le-mul (few q f) (most_digit x h)
  where
    few : (q : ℕ) → q ≤ 1335088 → q ≤ 2097152
    few q h = omega arith

-- what a column gives back: not too much, and no less than what q digits leave of its loan
pub record Back (q k : ℕ) : Type 0 where
  pub most : k < 2 ^ 22
  pub least : 2097152 ≤ k + q

pub first_back : (q : ℕ) → Back q 2097152
first_back q = record { most = lit< tt; least = go q }
  where
    go : (q : ℕ) → 2097152 ≤ 2097152 + q
    go q = omega arith

pub next_back : (a back q x t : ℕ) → a < 2 ^ 61 → q ≤ 1335088 → x < 2 ^ 41 → Back q back → t ≡ a + 2097152 * (2 ^ 41 - 1) + back - q * x → Back q (t / B)
next_back a back q x t fa fq fx b d = record {
  most = over a back (q * x) (t / B) (t % B) fa b.most (div-add-mod' t B ∙ d);
  least = under a back q (q * x) (t / B) (t % B) (mul-le-mul_left q (most_digit x fx)) fq b.least (div-add-mod' t B ∙ d) (digit t);
}
  where
    over : (a back y k r : ℕ) → a < 2 ^ 61 → back < 2 ^ 22 → k * B + r ≡ a + 2097152 * (2 ^ 41 - 1) + back - y → k < 2 ^ 22
    over a back y k r f g e = omega arith

    under : (a back q y k r : ℕ) → y ≤ q * (2 ^ 41 - 1) → q ≤ 1335088 → 2097152 ≤ back + q → k * B + r ≡ a + 2097152 * (2 ^ 41 - 1) + back - y → r < B → 2097152 ≤ k + q
    under a back q y k r h l g e f = omega arith

module _ (a0 a1 a2 a3 : ℕ) (f3 : a3 < 2 ^ 60) (q t0 t1 t2 : ℕ) (dq : q ≡ a3 / (T3 + 1)) (b : Back q (t2 / B)) where
  whole : q * (T3 + 1) + a3 % (T3 + 1) ≡ a3
  whole = ap (λ (z : ℕ). z * (T3 + 1) + a3 % (T3 + 1)) dq ∙ div-add-mod' a3 (T3 + 1)

  -- the top column
  pub room : q * T3 + 2097152 ≤ a3 + t2 / B
  room = go a3 q (a3 % (T3 + 1)) (t2 / B) b.least whole
    where
      go : (a q r k : ℕ) → 2097152 ≤ k + q → q * (T3 + 1) + r ≡ a → q * T3 + 2097152 ≤ a + k
      go a q r k f e = omega arith

  -- the same remainder
  pub carried : (w0 w1 w2 w3 : ℕ) → t0 ≡ a0 + 2097152 * (2 ^ 41 - 1) + 2097152 - q * T0 → t1 ≡ a1 + 2097152 * (2 ^ 41 - 1) + t0 / B - q * T1 → t2 ≡ a2 + 2097152 * (2 ^ 41 - 1) + t1 / B - q * T2
      → RestLimbs (limbs B (t0 % B) (t1 % B) (t2 % B) (a3 + t2 / B - q * T3 - 2097152)) w0 w1 w2 w3 → RestLimbs (limbs B a0 a1 a2 a3) w0 w1 w2 w3
  carried w0 w1 w2 w3 d0 d1 d2 r = record {
    is = r.is ∙ sym (ap (λ (z : ℕ). z % turn) turns ∙ mul-add-mod_self_right q turn left);
    fits0 = r.fits0;
    fits1 = r.fits1;
    fits2 = r.fits2;
    fits3 = r.fits3;
  }
    where
      fq : q ≤ 1335088
      fq = quotient a3 q f3 dq

      left : ℕ
      left = limbs B (t0 % B) (t1 % B) (t2 % B) (a3 + t2 / B - q * T3 - 2097152)

      top : (a x k : ℕ) → x + 2097152 ≤ a + k → a + k ≡ x + 2097152 + (a + k - x - 2097152)
      top a x k h = omega arith

      turns : limbs B a0 a1 a2 a3 ≡ q * turn + left
      turns =
          four_columns B 2097152 a0 a1 a2 a3 (q * T0) (q * T1) (q * T2) (q * T3) (t0 / B) (t1 / B) (t2 / B) (t0 % B) (t1 % B) (t2 % B) (a3 + t2 / B - q * T3 - 2097152)
          (column_is a0 2097152 2097152 (q * T0) t0 (taken q T0 fq (lit< tt)) d0) (column_is a1 2097152 (t0 / B) (q * T1) t1 (taken q T1 fq (lit< tt)) d1) (column_is a2 2097152 (t1 / B) (q * T2) t2 (taken q T2 fq (lit< tt)) d2)
          (top a3 (q * T3) (t2 / B) room)
          ∙ ap (λ (z : ℕ). z + left) (limbs_times q B T0 T1 T2 T3 ∙ ap (λ (z : ℕ). q * z) (sym turn_limbs))

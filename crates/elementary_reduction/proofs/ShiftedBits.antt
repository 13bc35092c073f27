-- Bits shifted in: the first ones, then a power of two at a time; and the upper bits of what is left.
use mathlib.Core.Path.{◌≡◌, refl, sym, ap, ◌∙◌}
use Prim.Native.Nat.{ℕ, ◌+◌, ◌*◌, ◌/◌, ◌%◌, ◌^◌, ◌≤◌, ◌<◌}
use native.Mathlib.Nat.{lt_of_lt_of_le, mul_assoc, mul_comm, mul_left_comm, add-mul, mod-mod, mod-eq_of_lt, mul-add-mod_self_right, div-add-mod', mul-add-div_right, div-div-eq-div-mul}
use native.Mathlib.Omega.{arith}
use lib.Dec.{lit≤}
use lib.Arith.{digits_div}
use lib.Pow.{pow_pos, pow-add, pow_mono, shl_lt}
use Rattle.elementary_reduction.specs.Reduction.{turn}
use Rattle.elementary_reduction.specs.declared.rest.Rest.{Rest}
use Rattle.elementary_reduction.specs.Code.Limbs.{limbs, RestLimbs}
use Rattle.elementary_reduction.specs.Code.Rests.{value, Held}
use Rattle.elementary_reduction.proofs.Columns.{limbs_times}
use Rattle.elementary_reduction.proofs.TurnLimbs.{B}

times_mod : (v t k : ℕ) → v % t * k % t ≡ v * k % t
times_mod v t k =
    sym (ap (λ (z : ℕ). z * k % t) (sym (div-add-mod' v t)) ∙ ap (λ (z : ℕ). z % t) (add-mul (v / t * t) (v % t) k ∙ ap (λ (z : ℕ). z + v % t * k) (mul_assoc (v / t) t k ∙ ap (λ (z : ℕ). v / t * z) (mul_comm t k) ∙ sym (mul_assoc (v / t) k t)))
    ∙ mul-add-mod_self_right (v / t * k) t (v % t * k))

same_rest : {v w w0 w1 w2 w3 : ℕ} → v % turn ≡ w % turn → RestLimbs v w0 w1 w2 w3 → RestLimbs w w0 w1 w2 w3
same_rest e r = record { is = r.is ∙ e; fits0 = r.fits0; fits1 = r.fits1; fits2 = r.fits2; fits3 = r.fits3 }

-- a remainder is its own
pub own : {v w0 w1 w2 w3 : ℕ} → RestLimbs v w0 w1 w2 w3 → RestLimbs (limbs B w0 w1 w2 w3) w0 w1 w2 w3
own {v} h = same_rest (sym (mod-mod v turn) ∙ ap (λ (z : ℕ). z % turn) (sym h.is)) h

-- what is made of a remainder is made of the number
pub of_rest : (v c : ℕ) (r t : Rest) → Held v r → Held (value r * c) t → Held (v * c) t
of_rest v c r t h = same_rest (ap (λ (z : ℕ). z * c % turn) h.is ∙ times_mod v turn c)

-- ---- the first bits
-- m's lower 13 bits and the others, at their places
pub low_lt : (m n : ℕ) → m % 8192 * 2 ^ (28 + n % 20) < 2 ^ 61
low_lt m n = lt_of_lt_of_le (shl_lt 13 (28 + n % 20) (few m)) (pow_mono (places n))
  where
    few : (m : ℕ) → m % 8192 < 2 ^ 13
    few m = omega arith

    places : (n : ℕ) → 13 + (28 + n % 20) ≤ 61
    places n = omega arith

pub high_lt : (m n : ℕ) → m < 2 ^ 53 → m / 8192 * 2 ^ (n % 20) < 2 ^ 60
high_lt m n h = lt_of_lt_of_le (shl_lt 40 (n % 20) (few m h)) (pow_mono (places n))
  where
    few : (m : ℕ) → m < 2 ^ 53 → m / 8192 < 2 ^ 40
    few m h = omega arith

    places : (n : ℕ) → 40 + n % 20 ≤ 60
    places n = omega arith

pub low_is : (m n : ℕ) → m % 8192 * 2 ^ (28 + n % 20) % 2 ^ 64 ≡ m % 8192 * 2 ^ (28 + n % 20)
low_is m n = mod-eq_of_lt (lt_of_lt_of_le (low_lt m n) (lit≤ tt))

pub high_is : (m n : ℕ) → m < 2 ^ 53 → m / 8192 * 2 ^ (n % 20) % 2 ^ 64 ≡ m / 8192 * 2 ^ (n % 20)
high_is m n h = mod-eq_of_lt (lt_of_lt_of_le (high_lt m n h) (lit≤ tt))

first_limbs : (m s : ℕ) → limbs B 0 0 (m % 8192 * 2 ^ (28 + s)) (m / 8192 * 2 ^ s) ≡ m * 2 ^ (110 + s)
unfolding limbs
first_limbs m s =
    ap (λ (z : ℕ). ((m / 8192 * 2 ^ s * B + m % 8192 * z) * B + 0) * B + 0) (pow-add 2 28 s)
    ∙ none (m / 8192 * 2 ^ s * B + m % 8192 * (2 ^ 28 * 2 ^ s)) B
    ∙ ap (λ (z : ℕ). z * B * B) (together m (2 ^ s))
    ∙ regroup m (2 ^ 28) (2 ^ s) B
    ∙ ap (λ (z : ℕ). m * z) (sym (pow-add 2 110 s))
  where
    none : (x b : ℕ) → (x * b + 0) * b + 0 ≡ x * b * b
    none x b = omega arith

    together : (m P : ℕ) → m / 8192 * P * B + m % 8192 * (2 ^ 28 * P) ≡ m * (2 ^ 28 * P)
    together m P = at (m / 8192) (m % 8192) P m (div-add-mod' m 8192)
      where
        at : (h l P m : ℕ) → h * 8192 + l ≡ m → h * P * B + l * (2 ^ 28 * P) ≡ m * (2 ^ 28 * P)
        at h l P m e = sym (ap (λ (z : ℕ). z * (2 ^ 28 * P)) (sym e) ∙ spread h l P)
          where
            spread : (h l P : ℕ) → (h * 8192 + l) * (2 ^ 28 * P) ≡ h * P * B + l * (2 ^ 28 * P)
            spread h l P = omega arith

    regroup : (m c P b : ℕ) → m * (c * P) * b * b ≡ m * (c * (b * b) * P)
    regroup m c P b = simp (mul_assoc, mul_comm, mul_left_comm) refl

pub start : (m n : ℕ) (r : Rest) → m < 2 ^ 53 → Held (limbs B 0 0 (m % 8192 * 2 ^ (28 + n % 20) % 2 ^ 64) (m / 8192 * 2 ^ (n % 20) % 2 ^ 64)) r → Held (m * 2 ^ (110 + n % 20)) r
start m n r f = same_rest (ap (λ (z : ℕ). z % turn) ((λ i. limbs B 0 0 (low_is m n i) (high_is m n f i)) ∙ first_limbs m (n % 20)))

-- ---- twenty more, and twice as many
pub twenty : (r t : Rest) → Held (limbs B (r.w.w0 * 1048576) (r.w.w1 * 1048576) (r.w.w2 * 1048576) (r.w.w3 * 1048576)) t → Held (value r * 2 ^ 20) t
twenty r t = same_rest (ap (λ (z : ℕ). z % turn) (scaled r.w.w0 r.w.w1 r.w.w2 r.w.w3))
  where
    scaled : (w0 w1 w2 w3 : ℕ) → limbs B (w0 * 1048576) (w1 * 1048576) (w2 * 1048576) (w3 * 1048576) ≡ limbs B w0 w1 w2 w3 * 1048576
    scaled w0 w1 w2 w3 = (λ i. limbs B (mul_comm w0 1048576 i) (mul_comm w1 1048576 i) (mul_comm w2 1048576 i) (mul_comm w3 1048576 i)) ∙ limbs_times 1048576 B w0 w1 w2 w3 ∙ mul_comm 1048576 (limbs B w0 w1 w2 w3)

pub twice : (X : ℕ) (r h t : Rest) → Held (value r * 2 ^ X) h → Held (value h * 2 ^ X) t → Held (value r * 2 ^ (2 * X)) t
twice X r h t a b = same_rest (ap (λ (z : ℕ). z % turn) (mul_assoc (value r) (2 ^ X) (2 ^ X) ∙ ap (λ (z : ℕ). value r * z) (sym (pow-add 2 X X) ∙ ap (λ (z : ℕ). 2 ^ z) (two X)))) (of_rest (value r * 2 ^ X) (2 ^ X) h t a b)
  where
    two : (X : ℕ) → X + X ≡ 2 * X
    two X = omega arith

-- ---- k times twenty more, by the binary digits of k
digits_of : (k : ℕ) → k < 64 → 20 * (k % 2) + 40 * (k / 2 % 2) + 80 * (k / 4 % 2) + 160 * (k / 8 % 2) + 320 * (k / 16 % 2) + 640 * (k / 32 % 2) ≡ 20 * k
digits_of k h = add (20 * (k % 2)) (40 * (k / 2 % 2)) (80 * (k / 4 % 2)) (160 * (k / 8 % 2)) (320 * (k / 16 % 2)) (640 * (k / 32 % 2)) (40 * (k / 2)) (80 * (k / 4)) (160 * (k / 8)) (320 * (k / 16)) (640 * (k / 32)) (20 * k) (at1 k) (at2 k) (at4 k) (at8 k) (at16 k) (at32 k h)
  where
    at1 : (k : ℕ) → 20 * k ≡ 20 * (k % 2) + 40 * (k / 2)
    at1 k = omega arith

    at2 : (k : ℕ) → 40 * (k / 2) ≡ 40 * (k / 2 % 2) + 80 * (k / 4)
    at2 k = omega arith

    at4 : (k : ℕ) → 80 * (k / 4) ≡ 80 * (k / 4 % 2) + 160 * (k / 8)
    at4 k = omega arith

    at8 : (k : ℕ) → 160 * (k / 8) ≡ 160 * (k / 8 % 2) + 320 * (k / 16)
    at8 k = omega arith

    at16 : (k : ℕ) → 320 * (k / 16) ≡ 320 * (k / 16 % 2) + 640 * (k / 32)
    at16 k = omega arith

    at32 : (k : ℕ) → k < 64 → 640 * (k / 32) ≡ 640 * (k / 32 % 2)
    at32 k h = omega arith

    add : (a b c d e f u v w x y z : ℕ) → z ≡ a + u → u ≡ b + v → v ≡ c + w → w ≡ d + x → x ≡ e + y → y ≡ f → a + b + c + d + e + f ≡ z
    add a b c d e f u v w x y z p q r s t o = omega arith

joined : (v a b c d e f : ℕ) → v * 2 ^ a * 2 ^ b * 2 ^ c * 2 ^ d * 2 ^ e * 2 ^ f ≡ v * 2 ^ (a + b + c + d + e + f)
joined v a b c d e f =
    ap (λ (z : ℕ). z * 2 ^ c * 2 ^ d * 2 ^ e * 2 ^ f) (two v a b) ∙ ap (λ (z : ℕ). z * 2 ^ d * 2 ^ e * 2 ^ f) (two v (a + b) c) ∙ ap (λ (z : ℕ). z * 2 ^ e * 2 ^ f) (two v (a + b + c) d) ∙ ap (λ (z : ℕ). z * 2 ^ f) (two v (a + b + c + d) e)
    ∙ two v (a + b + c + d + e) f
  where
    two : (v a b : ℕ) → v * 2 ^ a * 2 ^ b ≡ v * 2 ^ (a + b)
    two v a b = mul_assoc v (2 ^ a) (2 ^ b) ∙ ap (λ (z : ℕ). v * z) (sym (pow-add 2 a b))

pub all_digits : (k : ℕ) (r r1 r2 r3 r4 r5 t : Rest) → k < 64 → Held (value r * 2 ^ (20 * (k % 2))) r1 → Held (value r1 * 2 ^ (40 * (k / 2 % 2))) r2 → Held (value r2 * 2 ^ (80 * (k / 4 % 2))) r3 → Held (value r3 * 2 ^ (160 * (k / 8 % 2))) r4
    → Held (value r4 * 2 ^ (320 * (k / 16 % 2))) r5 → Held (value r5 * 2 ^ (640 * (k / 32 % 2))) t → Held (value r * 2 ^ (20 * k)) t
all_digits k r r1 r2 r3 r4 r5 t f h1 h2 h3 h4 h5 h6 =
    let v1 : ℕ = value r * 2 ^ (20 * (k % 2)) in
    let v2 : ℕ = v1 * 2 ^ (40 * (k / 2 % 2)) in
    let v3 : ℕ = v2 * 2 ^ (80 * (k / 4 % 2)) in
    let v4 : ℕ = v3 * 2 ^ (160 * (k / 8 % 2)) in
    let v5 : ℕ = v4 * 2 ^ (320 * (k / 16 % 2)) in
    let g2 = of_rest v1 (2 ^ (40 * (k / 2 % 2))) r1 r2 h1 h2 in
    let g3 = of_rest v2 (2 ^ (80 * (k / 4 % 2))) r2 r3 g2 h3 in
    let g4 = of_rest v3 (2 ^ (160 * (k / 8 % 2))) r3 r4 g3 h4 in
    let g5 = of_rest v4 (2 ^ (320 * (k / 16 % 2))) r4 r5 g4 h5 in
    same_rest (ap (λ (z : ℕ). z % turn) (joined (value r) (20 * (k % 2)) (40 * (k / 2 % 2)) (80 * (k / 4 % 2)) (160 * (k / 8 % 2)) (320 * (k / 16 % 2)) (640 * (k / 32 % 2)) ∙ ap (λ (z : ℕ). value r * 2 ^ z) (digits_of k f)))
    (of_rest v5 (2 ^ (640 * (k / 32 % 2))) r5 t g5 h6)

-- ---- the bits from 2 ^ 99 on
pub upper_is : (w0 w1 w2 w3 : ℕ) → w0 < 2 ^ 41 → w1 < 2 ^ 41 → limbs B w0 w1 w2 w3 / 2 ^ 99 ≡ w3 * 16777216 + w2 / 131072
unfolding limbs
upper_is w0 w1 w2 w3 f g =
    sym (div-div-eq-div-mul (((w3 * B + w2) * B + w1) * B + w0) (2 ^ 41) (2 ^ 58))
    ∙ ap (λ (z : ℕ). z / 2 ^ 58) (digits_div ((w3 * B + w2) * B + w1) f)
    ∙ sym (div-div-eq-div-mul ((w3 * B + w2) * B + w1) (2 ^ 41) (2 ^ 17))
    ∙ ap (λ (z : ℕ). z / 2 ^ 17) (digits_div (w3 * B + w2) g)
    ∙ ap (λ (z : ℕ). (z + w2) / 2 ^ 17) (sym (mul_assoc w3 16777216 (2 ^ 17)))
    ∙ mul-add-div_right {m = 2 ^ 17} (pow_pos 17) (w3 * 16777216) w2

-- what is left of m * 2 ^ (110 + n): the first step alone, and with more
pub finish : (m n x : ℕ) (r : Rest) → n < 20 → Held (m * 2 ^ (110 + n % 20)) r → x ≡ value r / 2 ^ 99 → x ≡ m * 2 ^ (110 + n) % turn / 2 ^ 99
finish m n x r f h e = e ∙ ap (λ (z : ℕ). z / 2 ^ 99) (h.is ∙ ap (λ (z : ℕ). m * 2 ^ (110 + z) % turn) (mod-eq_of_lt f))

pub finish_far : (m n x : ℕ) (r t : Rest) → Held (m * 2 ^ (110 + n % 20)) r → Held (value r * 2 ^ (20 * (n / 20))) t → x ≡ value t / 2 ^ 99 → x ≡ m * 2 ^ (110 + n) % turn / 2 ^ 99
finish_far m n x r t h g e =
    e ∙ ap (λ (z : ℕ). z / 2 ^ 99) ((of_rest (m * 2 ^ (110 + n % 20)) (2 ^ (20 * (n / 20))) r t h g).is ∙ ap (λ (z : ℕ). z % turn) (mul_assoc m (2 ^ (110 + n % 20)) (2 ^ (20 * (n / 20))) ∙ ap (λ (z : ℕ). m * z) (sym (pow-add 2 (110 + n % 20) (20 * (n / 20))) ∙ ap (λ (z : ℕ). 2 ^ z) (all n))))
  where
    all : (n : ℕ) → 110 + n % 20 + 20 * (n / 20) ≡ 110 + n
    all n = omega arith

-- ---- what fits

-- `digit_by_digit` meets its contract.
use Rattle.std.proofs.Common.{◌≡◌, ℕ, ◌+◌, ◌*◌, ◌/◌, ◌%◌, ◌^◌, ◌<◌, ◌≤◌, sym, ap, ◌∙◌, mul-le-mul_left, mul_assoc, pow_mono, pow-add, arith}
use Rattle.ieee754.proofs.IntegerRoot.{sq_lt_back}
use Rattle.ieee754_roots.proofs.RootDigits.{half_near}
use Rattle.ieee754_roots.proofs.square_root.digit_by_digit.Goals as goal

-- the root so far is short
short : (q rest left m k : ℕ) → (q * q + rest) * 2 ^ 64 + left ≡ m * 2 ^ (10 + 2 * k) → k < 54 → m < 2 ^ 54 → q < 2 ^ 54
short q rest left m k e h f = sq_lt_back q (2 ^ 54) (under (q * q) rest left m (m * 2 ^ (10 + 2 * k)) e (mul-le-mul_left m (pow_mono (few k h))) f)
  where
    few : (k : ℕ) → k < 54 → 10 + 2 * k ≤ 116
    few k h = omega arith

    under : (x r l m y : ℕ) → (x + r) * 2 ^ 64 + l ≡ y → y ≤ m * 2 ^ 116 → m < 2 ^ 54 → x < 2 ^ 54 * 2 ^ 54
    under x r l m y e h f = omega arith

-- two digits go over
more : (v w left m k : ℕ) → v * 2 ^ 64 + left ≡ m * 2 ^ (10 + 2 * k) → w ≡ 4 * v + left / 2 ^ 62 → w * 2 ^ 64 + left * 4 % 2 ^ 64 ≡ m * 2 ^ (10 + 2 * (k + 1))
more v w left m k e f = go v w left (m * 2 ^ (10 + 2 * k)) e f ∙ mul_assoc m (2 ^ (10 + 2 * k)) 4 ∙ ap (λ z. m * z) (sym (pow-add 2 (10 + 2 * k) 2) ∙ ap (λ z. 2 ^ z) (next k))
  where
    go : (v w l y : ℕ) → v * 2 ^ 64 + l ≡ y → w ≡ 4 * v + l / 2 ^ 62 → w * 2 ^ 64 + l * 4 % 2 ^ 64 ≡ y * 4
    go v w l y e f = omega arith

    next : (k : ℕ) → 10 + 2 * k + 2 ≡ 10 + 2 * (k + 1)
    next k = omega arith

-- none is left
all : (v left m k : ℕ) → v * 2 ^ 64 + left ≡ m * 2 ^ (10 + 2 * k) → left < 2 ^ 64 → k ≡ 54 → v ≡ 4 * (m * 2 ^ 52)
all v left m k e h f = go v left m (e ∙ ap (λ z. m * 2 ^ (10 + 2 * z)) f) h
  where
    go : (v l m : ℕ) → v * 2 ^ 64 + l ≡ m * 2 ^ 118 → l < 2 ^ 64 → v ≡ 4 * (m * 2 ^ 52)
    go v l m e h = omega arith

two_digits : (l : ℕ) → l < 2 ^ 64 → l / 2 ^ 62 < 4
two_digits l h = omega arith

end : (k : ℕ) → k ≤ 54 → 54 ≤ k → k ≡ 54
end k h g = omega arith

pub with_digits-p-requires : goal.with_digits-p-requires
with_digits-p-requires c =
    let l = c.loop in (short l.p.q l.p.rest l.left c.args.m l.counter l.invariant.0 c.loop-test.true c.requires.1, l.invariant.1, two_digits l.left l.auto.left-fits.fits)

pub loop-preserved : goal.loop-preserved
loop-preserved c = let l = c.loop in (more _ _ l.left c.args.m l.counter l.invariant.0 c.with_digits-p.ensures.0, c.with_digits-p.ensures.1)

pub returns : goal.returns
returns c =
    let l = c.loop in
    half_near (c.args.m * 2 ^ 52) l.p.q l.p.rest (some c.args.m c.requires.0) (all _ l.left c.args.m l.counter l.invariant.0 l.auto.left-fits.fits (end l.counter l.auto.counter-end c.loop-test.false)) l.invariant.1
  where
    some : (x : ℕ) → 2 ^ 52 ≤ x → 0 < x * 2 ^ 52
    some x h = omega arith

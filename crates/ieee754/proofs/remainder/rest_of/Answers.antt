-- `rest_of`: of a number with the same rest, a few places more have the same rest too.
use Rattle.std.proofs.Common.{◌≡◌, ℕ, ◌+◌, ◌-◌, ◌*◌, ◌/◌, ◌%◌, ◌^◌, ◌<◌, ◌≤◌, sym, ap, ◌∙◌, arith, mod-lt, mod-eq_of_lt, mul_assoc, pow-add, pow_mono, lt_of_lt_of_le, shl_lt}
use Rattle.std.proofs.Math.Nat.{mod-mod}
use Rattle.std.proofs.lemmas.Nat.{mul-mod_first}
use Rattle.ieee754.proofs.remainder.rest_of.Goals as goal

-- j places more
more : (r m k j n : ℕ) → r < 2 ^ 53 → j ≤ 11 → r % n ≡ m * 2 ^ k % n → r * 2 ^ j % 2 ^ 64 % n ≡ m * 2 ^ (k + j) % n
more r m k j n h g e =
    ap (λ z. z % n) (mod-eq_of_lt (lt_of_lt_of_le (shl_lt 53 j h) (pow_mono (most j g))))
    ∙ sym (mul-mod_first r (2 ^ j) n) ∙ ap (λ z. z * 2 ^ j % n) e ∙ mul-mod_first (m * 2 ^ k) (2 ^ j) n
    ∙ ap (λ z. z % n) (mul_assoc m (2 ^ k) (2 ^ j) ∙ ap (λ z. m * z) (sym (pow-add 2 k j)))
  where
    most : (j : ℕ) → j ≤ 11 → 53 + j ≤ 64
    most j g = omega arith

below : (v n : ℕ) → 0 < n → n < 2 ^ 53 → v % n < 2 ^ 53
below v n p h = let g = mod-lt v p in omega arith

next : (i : ℕ) → 11 * i + 11 ≡ 11 * (i + 1)
next i = omega arith

-- the places that the loop left
all : (i e k : ℕ) → i ≤ e → e ≤ i → e ≡ (k - 1) / 11 → 11 * i + (k - 11 * e) ≡ k
all i e k h g q = omega (arith, q)

few : (e k : ℕ) → e ≡ (k - 1) / 11 → k - 11 * e ≤ 11
few e k q = omega (arith, q)

pub loop-preserved : goal.loop-preserved
loop-preserved c =
    let l = c.loop in let n = c.args.n in let v = l.r * 2048 % 18446744073709551616 in (
      below v n c.requires.1 c.requires.2,
      mod-mod v n ∙ more l.r c.args.m (11 * l.counter) 11 n l.invariant.0 (omega arith) l.invariant.1 ∙ ap (λ z. c.args.m * 2 ^ z % n) (next l.counter),
    )

pub returns : goal.returns
returns c =
    let l = c.loop in
    let e = c.saturating_sub-elevens.result / 11 in
    let q : e ≡ (c.args.k - 1) / 11 = ap (λ z. z / 11) c.saturating_sub-elevens.ensures in
    more l.r c.args.m (11 * l.counter) (c.args.k - 11 * e) c.args.n l.invariant.0 (few e c.args.k q) l.invariant.1
    ∙ ap (λ z. c.args.m * 2 ^ z % c.args.n) (all l.counter e c.args.k l.auto.counter-end c.loop-test.false q)

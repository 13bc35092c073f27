-- Powers.
use mathlib.Core.Path.{◌≡◌, sym, ap, ◌∙◌, subst}
use Prim.Native.Nat.{ℕ, zero, suc, ◌*◌, ◌^◌, ◌<◌}
use native.Mathlib.Nat.{mul-pos, one-mul, pow-zero, pow-suc}
use lib.Dec.{lit<}

pub pos_pow : (b n : ℕ) → 0 < b → 0 < b ^ n
pos_pow b zero p = subst (λ (x : ℕ). 0 < x) (sym (pow-zero b)) (lit< tt)
pos_pow b (suc n) p = subst (λ (x : ℕ). 0 < x) (sym (pow-suc b n)) (mul-pos (pos_pow b n p) p)

pub pow_one : (n : ℕ) → n ^ 1 ≡ n
pow_one n = pow-suc n 0 ∙ ap (λ (x : ℕ). x * n) (pow-zero n) ∙ one-mul n

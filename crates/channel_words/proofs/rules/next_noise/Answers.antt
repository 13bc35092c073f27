-- `next_noise` meets its contract. Assumes nothing.
use mathlib.Core.Path.{◌≡◌, sym, ap, ◌∙◌}
use Prim.Native.Nat.{ℕ, ◌+◌, ◌*◌, ◌/◌, ◌%◌, ◌^◌}
use native.Mathlib.Nat.{mod-add-div, add-mul-mod_self_left}
use native.Mathlib.Omega.{arith}
use Rattle.channel_words.specs.Code.Rules.{next_noise}
use Rattle.channel_words.proofs.rules.next_noise.Goals as goal

-- a number cut before a product is the same after it, modulo m
cut_first : (m x a b : ℕ) → (x % m * a + b) % m ≡ (x * a + b) % m
cut_first m x a b =
    let e : x * a + b ≡ (x % m * a + b) + m * (x / m * a) = ap (λ (z : ℕ). z * a + b) (sym (mod-add-div x m)) ∙ omega arith in
    sym (ap (λ (z : ℕ). z % m) e ∙ add-mul-mod_self_left (x % m * a + b) m (x / m * a))

pub returns : goal.returns
unfolding next_noise
returns c = cut_first (2 ^ 31) c.args.x 1103515245 12345

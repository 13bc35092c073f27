-- `tracker_vectors::before::window_in` meets its contract. Assumes nothing.
use mathlib.Core.Path.{◌≡◌, refl}
use mathlib.Core.List.{List}
use Prim.Native.Nat.{ℕ, ◌%◌}
use borrow.Author.Tests.{eq-eqb, ne_eqb}
use lib.Ieee.{Float, binary64, of_bits}
use lib.ListN.{set, replicate}
use Rattle.vectors.specs.Code.Lines.{number_at, float64_at}
use Rattle.tracker_vectors.specs.Code.Before.{no_pairs, window_from}
use Rattle.tracker_vectors.proofs.before.window_in.Goals as goal

placed : (b : List ℕ) (zeros : List Float) {n : ℕ} {i q : Float} → zeros ≡ no_pairs → n ≡ number_at 49 b → i ≡ float64_at 50 b → q ≡ float64_at 51 b → n % 1024 ≡ 0
    → set (set zeros 0 i) 1 q ≡ window_from b
unfolding window_from
placed b zeros {n} z e f g h = rw (← e, ← f, ← g, eq-eqb (n % 1024) 0 h, z)

empty : (b : List ℕ) (zeros : List Float) {n : ℕ} → zeros ≡ no_pairs → n ≡ number_at 49 b → (n % 1024 ≡ 0 → ⊥) → zeros ≡ window_from b
unfolding window_from
empty b zeros {n} z e h = rw (← e, ne_eqb (n % 1024) 0 h, z)

pub returns-then-at-eq0 : goal.returns-then-at-eq0
unfolding no_pairs
returns-then-at-eq0 c = placed c.args.b.now (replicate 2048 (of_bits binary64 0)) refl c.at.ensures c.at-then-at-eq0.ensures c.at-then-at-eq0-2.ensures c.if-at-eq0.true

pub returns-else-at-eq0 : goal.returns-else-at-eq0
unfolding no_pairs
returns-else-at-eq0 c = empty c.args.b.now (replicate 2048 (of_bits binary64 0)) refl c.at.ensures c.if-at-eq0.false

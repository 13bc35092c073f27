-- What `settle` makes of the guard and the mark, in each case of its tests.
use Prim.Native.Nat.{◌-◌, ◌<◌, ◌≤◌}
use mathlib.Core.Path.{◌≡◌, refl, sym, ap, ◌∙◌}
use mathlib.Core.Bool.{Bool, true, false, not, ◌&&◌}
use lib.Ieee.{Float}
use borrow.Author.Tests.{lt-ltb, le-ltb}
use Rattle.sequences.proofs.Choices.{cond_yes, cond_no}
use Rattle.tracker.specs.declared.state.CarrierPllEkf.{CarrierPllEkf}
use Rattle.tracker.specs.State.{with_lock}
use Rattle.tracker.specs.Lock.{next_metric, unlocks, settled}

module _ (t : CarrierPllEkf) (n pr : Float) where
  abbrev metric : Float
  metric = next_metric t.lock_metric n

  pub guarded : 0 < t.convergence_guard → with_lock t metric t.is_locked (t.convergence_guard - 1) ≡ settled t n pr
  unfolding settled
  guarded l = sym (cond_yes _ _ (lt-ltb _ _ l))

  -- u is the answer of the rules
  at_zero : (u : Bool) → t.convergence_guard ≤ 0 → u ≡ unlocks t.tuning.dual_lock metric pr
      → with_lock t metric (t.is_locked && not u) t.convergence_guard ≡ settled t n pr
  unfolding settled
  at_zero u l e =
      ap (λ (b : Bool). with_lock t metric (t.is_locked && not b) t.convergence_guard) e ∙ sym (cond_no _ _ (le-ltb _ _ l))

  -- b is the mark after it
  pub when_locked : (b u : Bool) → t.convergence_guard ≤ 0 → t.is_locked ≡ true → u ≡ unlocks t.tuning.dual_lock metric pr → b ≡ not u
      → with_lock t metric b t.convergence_guard ≡ settled t n pr
  when_locked b u l k e r =
      ap (λ (a : Bool). with_lock t metric a t.convergence_guard) (r ∙ sym (ap (λ (a : Bool). a && not u) k))
      ∙ at_zero u l e

  pub when_open : (b : Bool) → t.convergence_guard ≤ 0 → t.is_locked ≡ false → b ≡ t.is_locked → with_lock t metric b t.convergence_guard ≡ settled t n pr
  when_open b l k r =
      let u = unlocks t.tuning.dual_lock metric pr in
      ap (λ (a : Bool). with_lock t metric a t.convergence_guard) (r ∙ k ∙ sym (ap (λ (a : Bool). a && not u) k))
      ∙ at_zero u l refl

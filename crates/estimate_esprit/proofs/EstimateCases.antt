-- The definitions by their cases, as the functions' proofs cite them: each law is over what a function holds at a return or after a turn.
use mathlib.Core.Path.{◌≡◌, refl}
use mathlib.Core.Bool.{true, false}
use mathlib.Core.List.{List}
use Prim.Native.Nat.{ℕ, suc, ◌-◌, ◌/◌, ◌≤◌, ◌<◌}
use native.Mathlib.Omega.{arith}
use lib.ListN.{length}
use lib.Ieee.{Float, lt}
use borrow.Author.Tests.{lt-ltb, le-ltb}
use Rattle.ieee754.specs.Binary64 as float
use Rattle.ieee754.specs.Binary64.{times, over, two, two_pi, ten_to_minus12}
use Rattle.estimate_correlation.specs.Correlation.{correlation_matrix}
use Rattle.estimate_esprit.specs.Esprit.{ones, matrix_times, norm, divided_by, power_iteration, frequency, estimate}

-- ---- power iteration, k steps still to go

module _ (r : List Float) (k : ℕ) (u : List Float) {w : List Float} {m : Float} (more : 0 < k) (ew : w ≡ matrix_times r u) (em : m ≡ norm w) where
  stop : (n : ℕ) → k ≡ suc n → lt ten_to_minus12 m ≡ false → u ≡ power_iteration k r u
  unfolding power_iteration
  stop n e h = rw (e, ← ew, ← em, h)

  step : (n : ℕ) → k ≡ suc n → {v : List Float} → lt ten_to_minus12 m ≡ true → v ≡ divided_by m w → power_iteration n r v ≡ power_iteration k r u
  unfolding power_iteration
  step n e h ev = rw (e, ev, ← ew, ← em, h)

  pub power_stops : lt ten_to_minus12 m ≡ false → u ≡ power_iteration k r u
  power_stops h = let e : k ≡ suc (k - 1) = omega arith in stop (k - 1) e h

  pub power_goes : {v : List Float} → lt ten_to_minus12 m ≡ true → v ≡ divided_by m w → power_iteration (k - 1) r v ≡ power_iteration k r u
  power_goes h ev = let e : k ≡ suc (k - 1) = omega arith in step (k - 1) e h ev

no_steps : (r u : List Float) → u ≡ power_iteration 0 r u
unfolding power_iteration
no_steps r u = refl

pub power_ends : (r u : List Float) (k : ℕ) → k ≤ 0 → u ≡ power_iteration k r u
power_ends r u k h = let e : k ≡ 0 = omega arith in rw e (no_steps r u)

-- ---- the estimate

module _ (xs : List Float) (fs : Float) where
  pub too_few : length xs / 2 < 10 → float.zero ≡ estimate xs fs
  unfolding estimate
  too_few h = rw (lt-ltb (length xs / 2) 10 h)

  pub estimate_is : {r u : List Float} {f : Float} → 10 ≤ length xs / 2 → r ≡ correlation_matrix xs (length xs / 2 - 9) → u ≡ power_iteration 15 r ones
      → f ≡ frequency u fs → f ≡ estimate xs fs
  unfolding estimate
  estimate_is h er eu ef = rw (le-ltb (length xs / 2) 10 h, ← er, ← eu) ef

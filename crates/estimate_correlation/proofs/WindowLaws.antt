-- The window of the ten latest samples: one sample more moves each a place on.
use mathlib.Core.Path.{◌≡◌, ap, ◌∙◌}
use mathlib.Core.List.{List}
use Prim.Native.Nat.{ℕ, zero, suc, ◌+◌, ◌-◌, ◌<◌}
use native.Mathlib.Numerals.{add-one}
use native.Mathlib.Omega.{arith}
use lib.Ieee.{Float}
use Rattle.sums.specs.declared.complex.Complex.{Complex}
use Rattle.sums.specs.Complex.{Cx}
use Rattle.sums.specs.Interleaved.{at}
use Rattle.sums.specs.Code.Numbers.{number}
use Rattle.estimate_correlation.specs.Code.RunningSums.{Latest}

pub latest_next : (xs : List Float) (n : ℕ) (w v : List Complex) {s : Cx} → Latest xs n w → s ≡ at xs n → number v 0 ≡ s
    → ((i : ℕ) → i < 9 → number v (i + 1) ≡ number w i) → Latest xs (n + 1) v
latest_next xs n w v l es first later zero h lt =
    let e : n ≡ n + 1 - 1 - 0 = omega arith in
    first ∙ es ∙ ap (at xs) e
latest_next xs n w v l es first later (suc i) h lt =
    let e : n - 1 - i ≡ n + 1 - 1 - suc i = omega arith in
    let m : number v (suc i) ≡ number w i = rw add-one at (later i (omega arith)) in
    m ∙ l i (omega arith) (omega arith) ∙ ap (at xs) e

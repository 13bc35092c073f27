-- A choice by a test, once the test's answer is known. Assumes nothing.
use mathlib.Core.Path.{◌≡◌}
use mathlib.Core.Bool.{Bool, true, false, cond}

pub cond_yes {ℓ} : {X : Type ℓ} {b : Bool} (x y : X) → b ≡ true → cond b x y ≡ x
cond_yes x y e = rw e

pub cond_no {ℓ} : {X : Type ℓ} {b : Bool} (x y : X) → b ≡ false → cond b x y ≡ y
cond_no x y e = rw e

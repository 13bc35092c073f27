-- (F·(F·P)ᵀ)ᵀ is F·P·Fᵀ, operation by operation; and what the loop over rows stores.
use Prim.Native.Nat.{ℕ, zero, suc, ◌+◌, ◌*◌, ◌<◌}
use mathlib.Core.Path.{◌≡◌, sym, ap, ◌∙◌}
use mathlib.Core.List.{List}
use native.Mathlib.Omega.{arith}
use native.Mathlib.Nat.{zero-add}
use lib.Dec.{lit<}
use lib.ListN.{get_or, set}
use lib.Ieee.{Float, nan}
use Rattle.ieee754.specs.Binary64.{plus, times, half}
use Rattle.tracker_covariance.specs.Matrix.{at}
use Rattle.tracker_covariance.specs.Transition.{row, dot, by_f, by_ft}
use Rattle.tracker_covariance.specs.Code.Moved.{moved}
use Rattle.tracker_covariance.specs.Code.Transposed.{transposed}
use Rattle.tracker_covariance.proofs.Filling.{Rows, store_row}
use Rattle.tracker_covariance.proofs.Entries.{matrix_at, matrix_ext}

-- a row of F times a vector depends on the vector's six numbers alone
pub dot_agrees : (dt : Float) (r : ℕ) (v w : ℕ → Float) → r < 6 → ((k : ℕ) → k < 6 → v k ≡ w k) → dot (row dt r) v ≡ dot (row dt r) w
dot_agrees dt zero v w l h =
    λ j. plus (plus (h 0 (lit< tt) j) (times dt (h 1 (lit< tt) j))) (times (times (times half dt) dt) (h 2 (lit< tt) j))
dot_agrees dt (suc zero) v w l h = λ j. plus (h 1 (lit< tt) j) (times dt (h 2 (lit< tt) j))
dot_agrees dt (suc (suc zero)) v w l h = h 2 (lit< tt)
dot_agrees dt (suc (suc (suc zero))) v w l h =
    λ j. plus (plus (h 3 (lit< tt) j) (times dt (h 4 (lit< tt) j))) (times (times (times half dt) dt) (h 5 (lit< tt) j))
dot_agrees dt (suc (suc (suc (suc zero)))) v w l h = λ j. plus (h 4 (lit< tt) j) (times dt (h 5 (lit< tt) j))
dot_agrees dt (suc (suc (suc (suc (suc zero))))) v w l h = h 5 (lit< tt)
dot_agrees dt (suc (suc (suc (suc (suc (suc r)))))) v w l h = absurd (omega arith)

pub twice : (dt : Float) (p : List Float) → transposed (by_f dt (transposed (by_f dt p))) ≡ by_ft dt (by_f dt p)
twice dt p =
    matrix_ext _ _
    (λ r c hr hc.
    matrix_at _ c r hc hr
    ∙ dot_agrees dt c (λ k. at (transposed (by_f dt p)) k r) (λ k. at (by_f dt p) r k) hc (λ k hk. matrix_at _ k r hk hr))

-- the entries of (F·P)ᵀ
abbrev pub step_at : Float → List Float → ℕ → ℕ → Float
step_at dt p r c = at (by_f dt p) c r

-- one turn of the loop stores F times column r of P as row r, a being the first channel's three numbers and b the second's
pub turn : (dt : Float) (p out : List Float) (r : ℕ) (a b : List Float) → r < 6
    → let e : ℕ → Float = λ k. get_or p (k + r) nan in
    a ≡ moved dt (get_or p r nan) (e 6) (e 12) → b ≡ moved dt (e 18) (e 24) (e 30)
    → Rows (step_at dt p) out (6 * r + 0)
    → Rows (step_at dt p)
    (set
    (set
    (set
    (set
    (set
    (set out (6 * r) (get_or a 0 nan))
    (6 * r + 1) (get_or a 1 nan))
    (6 * r + 2) (get_or a 2 nan))
    (6 * r + 3) (get_or b 0 nan))
    (6 * r + 4) (get_or b 1 nan))
    (6 * r + 5) (get_or b 2 nan))
    (6 * (r + 1) + 0)
turn dt p out r a b l ea eb h =
    let dt2 = times (times half dt) dt in
    let at : ℕ → List Float → Float = λ k v. get_or v k nan in
    store_row (step_at dt p) out r _ _ _ _ _ _ l
    (ap (at 0) ea
    ∙ ap (λ (k : ℕ). plus (plus (get_or p k nan) (times dt (get_or p (6 + r) nan))) (times dt2 (get_or p (12 + r) nan))) (sym (zero-add r))
    ∙ sym (matrix_at _ 0 r (lit< tt) l))
    (ap (at 1) ea ∙ sym (matrix_at _ 1 r (lit< tt) l))
    (ap (at 2) ea ∙ sym (matrix_at _ 2 r (lit< tt) l))
    (ap (at 0) eb ∙ sym (matrix_at _ 3 r (lit< tt) l))
    (ap (at 1) eb ∙ sym (matrix_at _ 4 r (lit< tt) l))
    (ap (at 2) eb ∙ sym (matrix_at _ 5 r (lit< tt) l))
    h

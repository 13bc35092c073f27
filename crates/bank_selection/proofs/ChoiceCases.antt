-- The best so far, of which there may be none, against the candidate of the definition. Assumes nothing.
use Rattle.std.proofs.Common.{◌≡◌, ◌∙◌, ap, sym, ℕ, ◌<◌, arith, Bool, true, false, cond, ◌&&◌, ltb, Option, Some, None, refl}
use borrow.Author.Tests.{lt-ltb}
use Rattle.std.specs.Float.Ieee.{neg, lt}
use Rattle.ieee754.specs.Binary64.{one}
use Rattle.tracker.specs.declared.state.CarrierPllEkf.{CarrierPllEkf}
use Rattle.bank_model.specs.declared.state.EkfTrackingBank.{EkfTrackingBank}
use Rattle.bank_model.specs.Choice as model
use Rattle.bank_selection.specs.declared.choice.Candidate.{Candidate}
use Rattle.bank_selection.specs.Code.BestSoFar.{bar, better_of}

-- the definition's candidate, which for none has the number 3
abbrev as_model : Option Candidate → model.Candidate
as_model None = (3, neg one)
as_model (Some c) = (c.number, c.metric)

abbrev number_of : Option Candidate → Option ℕ
number_of None = None
number_of (Some c) = Some c.number

-- what it names is a tracker
abbrev Names : Option Candidate → Type 0
Names None = Unit {0}
Names (Some c) = c.number < 3

module _ (b : Bool) (x y : Option Candidate) where
  as_model_cond : as_model (cond b x y) ≡ cond b (as_model x) (as_model y)
  as_model_cond = elim b as (λ z. as_model (cond z x y) ≡ cond z (as_model x) (as_model y)) [ true ↦ refl | false ↦ refl ]

  names_cond : Names x → Names y → Names (cond b x y)
  names_cond h k = elim b as (λ z. Names (cond z x y)) [ true ↦ h | false ↦ k ]

module _ (o : Option Candidate) (i : ℕ) (t : CarrierPllEkf) where
  abbrev this : Option Candidate
  this = Some (record { number = i; metric = t.lock_metric })

  step : as_model (better_of o i t) ≡ model.better (as_model o) i t
  unfolding better_of bar model.better
  step =
      elim o as (λ z. as_model (better_of z i t) ≡ model.better (as_model z) i t) [
        | None ↦ as_model_cond (t.is_locked && lt (neg one) t.lock_metric) this None
        | Some c ↦ as_model_cond (t.is_locked && lt c.metric t.lock_metric) this (Some c)
      ]

  names_step : Names o → i < 3 → Names (better_of o i t)
  unfolding better_of
  names_step h k = names_cond (t.is_locked && lt (bar o) t.lock_metric) this o k h

by_number : (o : Option Candidate) → Names o → number_of o ≡ cond (ltb (as_model o).0 3) (Some (as_model o).0) None
by_number None h = refl
by_number (Some c) h = ap (λ (z : Bool). cond z (Some c.number) None) (sym (lt-ltb c.number 3 h))

pub chosen_is : (b : EkfTrackingBank) {x y z : Option Candidate} → x ≡ better_of None 0 b.t0.ekf → y ≡ better_of x 1 b.t1.ekf → z ≡ better_of y 2 b.t2.ekf
    → number_of z ≡ cond (ltb (model.chosen b) 3) (Some (model.chosen b)) None
unfolding model.chosen
chosen_is b {x} {y} {z} ex ey ez =
    let o0 = better_of None 0 b.t0.ekf in
    let o1 = better_of o0 1 b.t1.ekf in
    let o2 = better_of o1 2 b.t2.ekf in
    let e : z ≡ o2 =
    ez ∙ ap (λ (o : Option Candidate). better_of o 2 b.t2.ekf) (ey ∙ ap (λ (o : Option Candidate). better_of o 1 b.t1.ekf) ex) in
    let n = names_step o1 2 b.t2.ekf (names_step o0 1 b.t1.ekf (names_step None 0 b.t0.ekf tt (omega arith)) (omega arith)) (omega arith) in
    ap number_of e
    ∙ by_number o2 n
    ∙ ap (λ (m : model.Candidate). cond (ltb m.0 3) (Some m.0) None)
    (step o1 2 b.t2.ekf
    ∙ ap (λ (m : model.Candidate). model.better m 2 b.t2.ekf)
    (step o0 1 b.t1.ekf ∙ ap (λ (m : model.Candidate). model.better m 1 b.t1.ekf) (step None 0 b.t0.ekf)))

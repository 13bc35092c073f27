-- `list`: the line of names waits, and nothing is read yet.
use mathlib.Core.Path.{◌≡◌, refl}
use mathlib.Core.Bool.{false}
use native.Mathlib.Omega.{arith}
use lib.ListN.{length, replicate}
use Prim.Native.Nat.{ℕ, ◌<◌}
use Rattle.std.proofs.lemmas.List.{length-replicate}
use Rattle.pass_transfer.specs.declared.Next.TheVariants.{Read}
use Rattle.pass_transfer.specs.declared.State.{State}
use Rattle.pass_listing.proofs.TurnedLaws.{stands_first}
use Rattle.pass_listing.proofs.CarriedLaws.{moves_first}
use Rattle.pass_listing.proofs.list.Goals as goal

pub pump-requires : goal.pump-requires
pump-requires g c =
    let b = c.begin-f in
    let f : State = record { left = 0; from = 0; at = b.result.at; next = Read; error = 0; stuck = false; read = 0; written = 0 } in
    let text = replicate {A = ℕ} 262144 0 in
    let n = length-replicate {A = ℕ} 262144 0 in
    let room : 0 < length text = omega (arith, n) in
    (stands_first f _ text _ _ refl refl refl refl refl b.ensures.left_value.1 refl room b.ensures.begun, refl, refl)

pub returns-clause-carried : goal.returns-clause-carried
returns-clause-carried g c =
    let b = c.begin-f in
    let f : State = record { left = 0; from = 0; at = b.result.at; next = Read; error = 0; stuck = false; read = 0; written = 0 } in
    let text = replicate {A = ℕ} 262144 0 in
    let n = length-replicate {A = ℕ} 262144 0 in
    let room : 0 < length text = omega (arith, n) in
    c.pump.ensures.carried _ _ (moves_first f _ text _ _ _ _ refl refl refl refl refl b.ensures.left_value.1 refl room b.ensures.begun)

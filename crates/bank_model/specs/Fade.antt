-- The fade (the scope, module 7): a bank that used a tracker and has none locked goes on with it, block after block, until the count exceeds its steps.
-- Definitions only.
use Rattle.std.specs.Prelude.{ℕ, ◌+◌, Bool, true, false, cond, ltb, Float}
use Rattle.bank_model.specs.declared.state.EkfTrackingBank.{EkfTrackingBank}
use Rattle.bank_model.specs.Values.{marked}
use Rattle.bank_model.specs.Pruning.{pruned}
use Rattle.bank_model.specs.Choice.{chosen}

-- one more, held at the largest u64
unfoldable pub one_more : ℕ → ℕ
one_more n = cond (ltb n 0xffff_ffff_ffff_ffff) (n + 1) n

-- a tracker is in use; 3 stands for none
abbrev pub in_use : EkfTrackingBank → Bool
in_use b = ltb b.active_idx 3

-- no tracker is locked: one that is in use goes on, in a fade, until the count exceeds the steps; then none is in use, and the bank is marked as ended
unfoldable pub faded : EkfTrackingBank → EkfTrackingBank
faded b =
    let n = one_more b.fade_counter in
    cond (in_use b)
    (cond (ltb b.max_fade_steps n) (marked b 3 false n true) (marked b b.active_idx true n b.terminated_in_fade))
    b

-- the tracker that is chosen, or the fade
unfoldable pub selected : EkfTrackingBank → EkfTrackingBank
selected b = let i = chosen b in cond (ltb i 3) (marked b i false 0 b.terminated_in_fade) (faded b)

-- what follows a block's samples: pruning, then choice or fade
unfoldable pub finished : Float → EkfTrackingBank → EkfTrackingBank
finished k b = selected (pruned k b)

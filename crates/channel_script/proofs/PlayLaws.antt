-- Letters of a script: a block as it is called, and a letter that makes one or makes none. Assumes nothing.
use mathlib.Core.Path.{◌≡◌, ap}
use mathlib.Core.Bool.{Bool}
use mathlib.Core.List.{List}
use lib.Ieee.{Float, nan, ne}
use lib.ListN.{get_or}
use Rattle.sequences.specs.Folds.{some}
use Rattle.channel_model.specs.declared.Blocked.{Blocked}
use Rattle.channel_model.specs.declared.Channel.{Channel}
use Rattle.channel_model.specs.Blocks.{outcome}
use Rattle.channel_script.specs.declared.block.Left.{Left}
use Rattle.channel_script.specs.declared.session.Lists.{Lists}
use Rattle.channel_script.specs.Code.Blocks.{first_memory, second_memory, window_memory, seven, lent_block, left_of, block_left}

-- a block on its three memories
pub left_is : (c : Channel) (l : Lists) (r : Blocked) (f s f' s' w' : List Float) {t : Bool} → f ≡ first_memory l → s ≡ second_memory l
    → outcome r f' s' w' ≡ lent_block c l f s window_memory → t ≡ some (λ w. ne w seven) w'
    → ◌≡◌ {A = Left} (record { channel = r.channel; answer = r.answer; re = get_or f' 0 nan; im = get_or f' 1 nan; other = get_or s' 1 nan; touched = t }) (block_left c l)
unfolding block_left left_of outcome
left_is c l r f s f' s' w' hf hs e ht = let e' = rw (hf, hs) at e in rw ht (ap left_of e')

-- Assign (the scope, module 9; refusals 5 and 6): "it sets nominal, both targets and `frequency2`, and leaves Idle". Definitions only.
use Rattle.std.specs.Prelude.{ℕ, Bool, true, false, cond, not, ◌&&◌, ◌||◌, [], ◌∷◌, eqb, Float}
use Rattle.std.specs.Float.Ieee.{le, eq}
use Rattle.ieee754.specs.Binary64 as float
use Rattle.channel_model.specs.declared.Status.{Status}
use Rattle.channel_model.specs.declared.Status.TheVariants.{Idle, Assigned}
use Rattle.channel_model.specs.declared.Carriers.{Carriers}
use Rattle.channel_model.specs.declared.Channel.{Channel}
use Rattle.channel_model.specs.Returns.{Returned}
use Rattle.channel_model.specs.Values.{channel_of}
use Rattle.channel_model.specs.Refusals.{first_cause}

-- 5: 0 (of either sign), or from 10⁶ to 10¹¹ Hz, so a NaN is refused
unfoldable pub good_carrier : Float → Bool
good_carrier f = eq f float.zero || (le float.million f && le f float.hundred_billion)

unfoldable pub good_carriers : Carriers → Bool
good_carriers a = ((good_carrier a.nominal && good_carrier a.target) && good_carrier a.target2) && good_carrier a.frequency2

unfoldable pub idle : Status → Bool
idle Idle = true
idle Assigned = false

unfoldable pub assign_refusal : Carriers → Status → ℕ
assign_refusal a s = first_cause ((5, not (good_carriers a)) ∷ (6, not (idle s)) ∷ [])

unfoldable pub with_carriers : Channel → Carriers → Channel
with_carriers c a = channel_of c.setup Assigned a c.pll c.bank c.ever_locked c.last_snr c.is_locked c.reading

-- a refused assign gives the channel back as it was
unfoldable pub assigned : Channel → Carriers → Returned
assigned c a = let n = assign_refusal a c.status in record { refusal = n; channel = cond (eqb n 0) (with_carriers c a) c }

-- What the five exported functions return and leave, one definition for each: the call on the channel that the struct stands for, in C's layout. The
-- contracts of crate gibsumac cite these and nothing else. Definitions only.
use Rattle.std.specs.Prelude.{ℕ, List, Float}
use Rattle.channel_model.specs.declared.Settings.{Settings}
use Rattle.channel_model.specs.declared.Carriers.{Carriers}
use Rattle.channel_model.specs.Opening.{opened}
use Rattle.channel_model.specs.Assigning.{assigned}
use Rattle.channel_model.specs.Releasing.{released}
use Rattle.channel_model.specs.Figures.{figures}
use Rattle.channel_model.specs.Blocks.{Outcome, blocked}
use Rattle.channel_c_layout.specs.declared.plain_channel.PlainChannel.{PlainChannel}
use Rattle.channel_c_layout.specs.declared.plain_calls.PlainReturned.{PlainReturned}
use Rattle.channel_c_layout.specs.declared.plain_calls.PlainBlocked.{PlainBlocked}
use Rattle.channel_c_layout.specs.declared.plain_calls.TwelveFigures.{TwelveFigures}
use Rattle.channel_c_layout.specs.Channels.{plain_channel, real_channel, given_back}

-- what a call returned and what then stood in the three lent memories
unfoldable pub left_c : PlainBlocked → List Float → List Float → List Float → Outcome PlainChannel
left_c r first second windows = record { answer = r.answer; channel = r.channel; first = first; second = second; windows = windows }

-- gibsumac_open
unfoldable pub opened_c : Settings → PlainReturned
opened_c s = let r = opened s in record { refusal = r.refusal; channel = plain_channel r.channel }

-- gibsumac_assign
unfoldable pub assigned_c : PlainChannel → Carriers → PlainReturned
assigned_c p a = let r = assigned (real_channel p) a in record { refusal = r.refusal; channel = given_back r.refusal p r.channel }

-- gibsumac_block, by its flag and its three lent memories at entry
unfoldable pub blocked_c : PlainChannel → ℕ → List Float → List Float → List Float → Outcome PlainChannel
blocked_c p flag first second windows =
    let o = blocked (real_channel p) (record { flag = flag; first = first; second = second }) windows in
    record { answer = o.answer; channel = given_back o.answer.refusal p o.channel; first = o.first; second = o.second; windows = o.windows }

-- gibsumac_release
unfoldable pub released_c : PlainChannel → PlainChannel
released_c p = plain_channel (released (real_channel p))

-- gibsumac_figures
unfoldable pub figures_c : PlainChannel → TwelveFigures
figures_c p = record { values = figures (real_channel p) }

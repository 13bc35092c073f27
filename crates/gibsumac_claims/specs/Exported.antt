-- The five exported functions as open and the calls of a channel that is a struct of C. Each clause is the definition that the contract of one function
-- cites (crate gibsumac, src/calls.rt). Definitions only.
use Rattle.channel_model.specs.Calls.{assign, release, figures, block, Call, ask, lend, nothing, shown, Result, told, replied, Interface}
use Rattle.channel_c_layout.specs.declared.plain_channel.PlainChannel.{PlainChannel}
use Rattle.channel_c_layout.specs.Calls.{opened_c, assigned_c, blocked_c, released_c, figures_c}

-- gibsumac_assign, gibsumac_release, gibsumac_figures, which returns no channel, so that the caller's stays as it was, and gibsumac_block
unfoldable pub called_c : PlainChannel → Call → Result PlainChannel
called_c p (ask (assign a)) = told (assigned_c p a).refusal (assigned_c p a).channel nothing
called_c p (ask release) = told 0 (released_c p) nothing
called_c p (ask figures) = told 0 p (shown (figures_c p).values)
called_c p (lend (block b) w) = replied (blocked_c p b.flag b.first b.second w)

-- gibsumac_open, and the calls
unfoldable pub exported : Interface PlainChannel
exported = record { opens = λ s. told (opened_c s).refusal (opened_c s).channel nothing; calls = called_c }

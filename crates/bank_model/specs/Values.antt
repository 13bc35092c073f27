-- The bank's value (the scope, module 7), and what changes in it. Definitions only.
use Rattle.std.specs.Prelude.{ℕ, Bool}
use Rattle.tracker.specs.declared.state.Tracked.{Tracked}
use Rattle.bank_model.specs.declared.state.EkfTrackingBank.{EkfTrackingBank}

-- the bank with the steps of its fade, the trackers t, u and v, the tracker in use, the mark of fading, the count and the mark of having ended
abbrev pub bank_of : ℕ → Tracked → Tracked → Tracked → ℕ → Bool → ℕ → Bool → EkfTrackingBank
bank_of steps t u v active fading count ended =
    record { t0 = t; t1 = u; t2 = v; active_idx = active; in_fade = fading; fade_counter = count; max_fade_steps = steps; terminated_in_fade = ended }

-- with other trackers and another mark of having ended
abbrev pub with_trackers : EkfTrackingBank → Tracked → Tracked → Tracked → Bool → EkfTrackingBank
with_trackers b t u v ended = bank_of b.max_fade_steps t u v b.active_idx b.in_fade b.fade_counter ended

-- with another tracker in use, another mark of fading, count and mark of having ended
abbrev pub marked : EkfTrackingBank → ℕ → Bool → ℕ → Bool → EkfTrackingBank
marked b active fading count ended = bank_of b.max_fade_steps b.t0 b.t1 b.t2 active fading count ended

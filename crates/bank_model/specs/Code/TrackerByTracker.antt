-- A bank over the samples of a block, tracker by tracker: the order in which the code takes them. proofs/SampleOrder shows that it gives what
-- `bank_followed` gives. Definitions only.
use Rattle.std.specs.Prelude.{Float}
use Rattle.bank_model.specs.Values.{with_trackers}
use Rattle.bank_model.specs.Following.{Lists, BankWindows, fades, on_stretch}

-- tracker 0, then 1, then 2, each over all samples
unfoldable pub tracker_by_tracker : Float → Lists → BankWindows → BankWindows
tracker_by_tracker dt l k =
    let b = k.0 in
    let h0 = on_stretch 1 dt (fades b 0) l (b.t0, k.1) in
    let h1 = on_stretch 2 dt (fades b 1) l (b.t1, h0.1) in
    let h2 = on_stretch 3 dt (fades b 2) l (b.t2, h1.1) in
    (with_trackers b h0.0 h1.0 h2.0 b.terminated_in_fade, h2.1)

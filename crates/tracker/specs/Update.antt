-- An update (the scope, module 3): correction, and then the metric, the guard and the lock mark; one that gets lost stops there. Definitions only.
use Rattle.std.specs.Prelude.{List, Float}
use Rattle.std.proofs.Math.Option.{Option, none, some}
use Rattle.tracker_covariance.specs.declared.states.Band.TheVariants.{First, Second}
use Rattle.tracker.specs.declared.state.CarrierPllEkf.{CarrierPllEkf}
use Rattle.tracker.specs.declared.state.Tracked.{Tracked}
use Rattle.tracker.specs.Correction.{pair_or_lost, band_corrected}
use Rattle.tracker.specs.Lock.{settled}

abbrev pub tracked : CarrierPllEkf → List Float → Tracked
tracked t p = record { ekf = t; p = p }

-- one frequency: by the correction's answer
abbrev pub settled_by : Option (Float × Float) → CarrierPllEkf → List Float → Tracked
settled_by (some a) t p = tracked (settled t a.0 a.1) p
settled_by none t p = tracked t p

unfoldable pub updated : CarrierPllEkf → List Float → List Float → Float → Float → Tracked × List Float
updated t p w re im =
    let d = band_corrected t p w First re im in
    (settled_by (pair_or_lost d.0.answer) d.0.ekf d.0.p, d.1)

-- two frequencies: the second correction, after the first one answered in_phase and pr; the metric, the guard and the mark go by the first
abbrev pub settled_after : Option (Float × Float) → CarrierPllEkf → List Float → Float → Float → Tracked
settled_after (some a) t p in_phase pr = tracked (settled t in_phase pr) p
settled_after none t p in_phase pr = tracked t p

unfoldable pub second_corrected : CarrierPllEkf → List Float → List Float → Float → Float → Float → Float → Tracked × List Float
second_corrected t p w in_phase pr re im =
    let d = band_corrected t p w Second re im in
    (settled_after (pair_or_lost d.0.answer) d.0.ekf d.0.p in_phase pr, d.1)

abbrev pub second_by : Option (Float × Float) → CarrierPllEkf → List Float → List Float → Float → Float → Tracked × List Float
second_by (some a) t p w re im = second_corrected t p w a.0 a.1 re im
second_by none t p w re im = (tracked t p, w)

unfoldable pub updated_dual : CarrierPllEkf → List Float → List Float → Float → Float → Float → Float → Tracked × List Float
updated_dual t p w re1 im1 re2 im2 =
    let d = band_corrected t p w First re1 im1 in
    second_by (pair_or_lost d.0.answer) d.0.ekf d.0.p d.1 re2 im2

-- Every finite angle is wrapped into its range, to what the source answers but for one angle; and a corrected phase lies there.
pub mod RangeNumbers
pub mod WrappedPhase
pub mod OneAngle
pub mod CorrectedPhase

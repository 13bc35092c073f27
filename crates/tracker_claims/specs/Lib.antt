-- The range of a tracker's phase: what the wrap answers, and what a correction leaves.
pub mod WrappedPhase
pub mod CorrectedPhase

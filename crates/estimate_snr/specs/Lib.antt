-- Module 6 of the scope: the signal-to-noise ratio.
pub mod MomentEstimate

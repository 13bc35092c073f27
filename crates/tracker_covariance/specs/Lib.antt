-- Module 3, the covariance: what prediction and correction make of the 36 numbers and of the six states.
pub mod Matrix
pub mod States
pub mod Transition
pub mod ProcessNoise
pub mod Initial
pub mod Prediction
pub mod Correction
pub mod Code

-- Module 3: the tracker.
pub mod State
pub mod Prediction
pub mod Correction
pub mod Lock
pub mod Update
pub mod Code

-- What the proofs of the tracker's functions cite, on plain values, and what the crates above cite: that no step changes the settings, and that
-- an update reads only the live part of its window.
pub mod NanTest
pub mod CorrectionSteps
pub mod LockSteps
pub mod UpdateSteps
pub mod SecondSteps
pub mod EitherUpdate
pub mod Frame
pub mod Settings
pub mod LiveWindow

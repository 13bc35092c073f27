-- What only proofs and private functions cite.
pub mod SignalStep
pub mod Checks

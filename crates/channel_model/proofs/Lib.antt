-- Demand 1, what a release forgets, and a block with a signal in two parts.
pub mod Demand1
pub mod Forgetting
pub mod SignalParts

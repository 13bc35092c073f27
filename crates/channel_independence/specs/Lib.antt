-- Demand 3: what a caller holds between two calls, when two calls are equal, and what two channels answer.
pub mod Held
pub mod Demand3

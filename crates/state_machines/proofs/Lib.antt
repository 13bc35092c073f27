-- States and answers of a list of calls, what a list of calls keeps, two machines in lockstep, and a machine seen through a map.
pub mod Traces
pub mod Lockstep
pub mod Projection

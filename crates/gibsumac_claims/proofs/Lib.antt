-- Demands 1 and 3 of the exported functions are those of the channel, seen through the struct's layout.
pub mod Seen
pub mod Demand1C
pub mod Demand3C

-- Demands 1 and 3 of the exported functions.
pub mod Exported
pub mod Demand1C
pub mod Demand3C

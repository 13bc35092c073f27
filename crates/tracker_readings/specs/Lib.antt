-- Modules 7 and 9: what is read from a tracker.
pub mod Readings

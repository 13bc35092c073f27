-- Demand 3 is proved in Demand3; the files before it lead there.
pub mod Choices
pub mod Frames
pub mod Constants
pub mod Windows
pub mod SameChannel
pub mod Waiting
pub mod Steps
pub mod Demand3
pub mod Handed

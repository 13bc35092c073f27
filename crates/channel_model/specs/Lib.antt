-- Module 9: the channel. What open, assign, block, release and figures mean, and demand 1.
pub mod Values
pub mod Returns
pub mod Refusals
pub mod Opening
pub mod Assigning
pub mod Releasing
pub mod Figures
pub mod Readout
pub mod Answers
pub mod Starting
pub mod Tracking
pub mod Blocks
pub mod Calls
pub mod Demand1
pub mod Code

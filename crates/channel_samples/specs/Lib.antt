-- Module 9, what is asked of a block's samples and done to them before they are tracked.
pub mod Limits
pub mod Normalisation

-- Module 3, the power ratio.
pub mod Ring
pub mod PowerRatio
pub mod Code

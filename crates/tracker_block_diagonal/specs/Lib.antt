-- Module 3, the covariance of a tracker of one frequency, as two halves.
pub mod Code

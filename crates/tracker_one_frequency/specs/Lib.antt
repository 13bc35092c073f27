-- A one-frequency tracker with its covariance in two halves.
pub mod Code

-- What only private functions and proofs cite.
pub mod Joined
pub mod Steady
pub mod HalfPrediction
pub mod HalfCorrection

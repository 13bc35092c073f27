-- What only private functions and proofs cite.
pub mod RunningSums
pub mod Matrices

-- What only private functions and proofs cite.
pub mod Quotients
pub mod Units
pub mod WholeAway
pub mod WholeRoot

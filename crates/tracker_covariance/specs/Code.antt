-- What only private functions and proofs cite.
pub mod Entries
pub mod Moved
pub mod Transposed

-- What only private functions and proofs cite.
pub mod Numbers

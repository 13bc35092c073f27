-- What only the code of a bank over a block cites.
pub mod Code

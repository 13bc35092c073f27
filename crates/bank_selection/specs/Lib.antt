-- What only the code of a bank's choice cites.
pub mod Code

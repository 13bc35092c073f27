-- What only test programs and private functions cite.
pub mod Words
pub mod Lines
pub mod Reads
pub mod Counts

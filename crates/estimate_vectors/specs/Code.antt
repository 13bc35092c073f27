-- What only this program cites.
pub mod Bank
pub mod Lines

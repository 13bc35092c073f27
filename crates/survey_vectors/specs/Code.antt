-- What only this program cites.
pub mod Lines

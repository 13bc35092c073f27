-- What only this program cites.
pub mod Before
pub mod After
pub mod Lines

-- Laws of the lines of a pass text.
pub mod LineCases

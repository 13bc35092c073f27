-- The list of a pass text, turn by turn.
pub mod Code

-- The list of a pass (the scope, "The pass text and its list").
pub mod Digits
pub mod Lines
pub mod Code

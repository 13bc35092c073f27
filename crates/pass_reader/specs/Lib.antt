-- The form of the pass text (the scope, "The pass text and its list").
pub mod Bytes
pub mod Numbers
pub mod Lines
pub mod Code

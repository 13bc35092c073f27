-- The stream of a pass text: what a run answers for.
pub mod Account
pub mod Code

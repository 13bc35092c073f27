-- The list of a pass text (the scope, "The pass text and its list").
pub mod Opening
pub mod Judging
pub mod Listing
pub mod Code

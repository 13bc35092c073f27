-- Modules 7 and 9: a tracker over the samples of a block.
pub mod Following
pub mod Code

-- What the laws of the float operations say: the size of a difference, and errors.
pub mod Distance
pub mod Code

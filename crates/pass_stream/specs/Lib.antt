-- The pass text as a stream.
pub mod Stream
pub mod Code

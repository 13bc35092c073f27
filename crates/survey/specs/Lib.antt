pub mod Survey
pub mod Code

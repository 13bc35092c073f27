-- Lists of calls of any machine.
pub mod Runs
pub mod Code

-- What a case written by hand says. Only this test program cites it.
pub mod Numbers
pub mod Cases
pub mod Groups

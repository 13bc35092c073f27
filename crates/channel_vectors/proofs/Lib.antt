-- What the window memory holds.
pub mod MemoryLaws

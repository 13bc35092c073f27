-- Module 7, three trackers that are alike.
pub mod Code

-- What the second channel's correction is seen by.
pub mod SecondSeen

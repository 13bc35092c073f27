-- Laws of a turn of the stream.
pub mod TurnedLaws
pub mod CarriedLaws

-- Laws of a turn.
pub mod TurnLaws

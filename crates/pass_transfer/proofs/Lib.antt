-- Laws of what a read answers, and of the stream between two turns.
pub mod ReadLaws
pub mod StandingLaws
pub mod MovesLaws

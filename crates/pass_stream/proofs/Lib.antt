-- Laws of a stream of lines.
pub mod StreamLaws

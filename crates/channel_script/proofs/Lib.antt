-- Laws of the letters.
pub mod LetterLaws
pub mod LookLaws
pub mod BlockLaws
pub mod PlayLaws
pub mod Numbers

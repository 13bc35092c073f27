-- Laws of words and cases.
pub mod CaseLaws

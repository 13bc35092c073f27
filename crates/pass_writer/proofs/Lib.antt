-- Laws of digits, and of texts at the head of a buffer.
pub mod DigitLaws
pub mod LaidLaws
pub mod WrittenLaws
pub mod TextLengths
pub mod WorkedLines

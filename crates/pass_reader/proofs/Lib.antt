-- Laws of the form's definitions.
pub mod ByteLaws
pub mod NumberLaws
pub mod ValuesLaws
pub mod BlockLaws
pub mod LongLines
pub mod WorkedLines

-- L as a polynomial, one test over all cells, and the digits of the code's tables.
pub mod Odd
pub mod CellCheck
pub mod Digits

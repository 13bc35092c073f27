-- The Taylor sum of the arctangent as a polynomial, the digits of the tables, and how far the short polynomial of each cell is from the sum.
pub mod Taylor
pub mod Digits
pub mod CellCheck

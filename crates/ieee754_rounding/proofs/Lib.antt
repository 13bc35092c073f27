-- How far a rounded result can be from the exact one; the order of floats and what keeps it; products and sums exchanged, of opposite terms, and those that
-- are never -0. For any format.
pub mod Comparison
pub mod FloatOrder
pub mod RoundingError
pub mod Values
pub mod FormatValues
pub mod OperationRounding
pub mod OperationError
pub mod Commutation
pub mod Opposites
pub mod MonotoneSums
pub mod MinusZero

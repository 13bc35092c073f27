-- Polynomials over signed whole numbers: shifted to another centre, how far two can be apart, at a fraction; how far f64 sums and products are from exact
-- fractions; the cell of a number; and, from all these, how near an f64 is to a sum that is promised.
pub mod Norm
pub mod Ring
pub mod Polynomials
pub mod AlternatingSums
pub mod Cells
pub mod Approximation
pub mod Entries
pub mod InCell
pub mod NearSum
pub mod Horner
pub mod Quintic

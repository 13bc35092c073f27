-- Module 2, the tables of the common logarithm: the scope's L, and its coefficients around the middle of each cell.
pub mod Sum
pub mod Table

-- Module 2, the tables of the arctangent: the Taylor sum, and its coefficients around the middle of each cell.
pub mod Sum
pub mod Table

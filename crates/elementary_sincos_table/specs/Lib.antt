-- Module 2, the tables of sine and cosine: the Taylor sums, and their values at the middle of each cell.
pub mod Taylor
pub mod Table

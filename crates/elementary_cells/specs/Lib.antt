-- Tables by cells: polynomials shifted to a cell's middle, the cell that a number lies in, what the number is off, and a table's entries.
pub mod Polynomials
pub mod Cells

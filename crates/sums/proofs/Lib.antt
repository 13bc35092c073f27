-- Laws of sums, of tables, and of lists of the program's numbers.
pub mod Adding
pub mod Tables
pub mod Numbers

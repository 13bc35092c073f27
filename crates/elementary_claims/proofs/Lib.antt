-- That the turn is 2π: an order of fractions, and Machin's sums.
pub mod FractionOrder
pub mod Machin

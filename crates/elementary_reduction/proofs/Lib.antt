-- Laws of the remainder by the turn: as a fraction, by a float's pattern, and in limbs.
pub mod Fractions
pub mod Columns
pub mod TurnLimbs
pub mod ShiftedBits
pub mod Pattern

-- Laws of sine and cosine: their series at a fraction, the angle within one turn, the bounds for every finite angle, and symmetry.
pub mod SeriesBound
pub mod SignedUnit
pub mod OneTurn
pub mod Bounds
pub mod Symmetry
pub mod Cases
pub mod WorkedValues

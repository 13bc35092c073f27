-- Laws of the common logarithm: the constants and the table, the argument, the bound far from 1 and near 1, the signs, and the special cases.
pub mod Constants
pub mod SeriesBound
pub mod WholeRatio
pub mod Argument
pub mod CommonBound
pub mod Sign
pub mod FarBound
pub mod Slope
pub mod PastOneBound
pub mod SlopeNearTwo
pub mod BeforeOneBound
pub mod NearBound
pub mod Normal
pub mod Pattern
pub mod Cases

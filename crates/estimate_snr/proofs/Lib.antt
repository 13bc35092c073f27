pub mod EstimateCases
pub mod WorkedValues

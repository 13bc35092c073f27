-- Laws of the definitions, as the functions' proofs cite them, and the scope's value.
pub mod VectorLaws
pub mod EstimateCases
pub mod WorkedValues

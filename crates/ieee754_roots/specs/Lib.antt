-- What the square root and the hypotenuse are is said in ieee754; here is only how they are guessed.
pub mod Code

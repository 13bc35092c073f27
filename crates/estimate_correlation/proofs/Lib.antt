-- Laws of the definitions, as the functions' proofs cite them.
pub mod SampleLaws
pub mod WindowLaws
pub mod MirrorLaw
pub mod UpperLaws

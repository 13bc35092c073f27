-- Module 2: the two tables of the arctangent's series, as the code has them. Definitions only.
use Rattle.std.specs.Prelude.{ℕ, List}
use Rattle.elementary_arctangent.specs.Steps.{coefficients}

abbrev pub added : List ℕ
added = coefficients 1

abbrev pub subtracted : List ℕ
subtracted = coefficients 3

-- What a loop over lent memory computes, as functions of lists.
pub mod Pairs
pub mod Folds
pub mod Stretches

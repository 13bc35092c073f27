-- One turn and the end of each kind of loop, and what a change of one stretch leaves of the others.
pub mod Choices
pub mod PairLaws
pub mod FoldLaws
pub mod StretchLaws

-- What a line of numbers says of a channel: definitions that only test programs and private functions cite.
pub mod Arguments
pub mod Built
pub mod Answers
pub mod Standing
pub mod Rules

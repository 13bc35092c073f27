-- What no claim cites yet.
pub mod Traces

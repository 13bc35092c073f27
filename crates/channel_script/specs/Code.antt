-- What the cases written by hand mean: what a letter sets, what it does in a script, what it looks at. Only these test programs cite it.
pub mod Letters
pub mod Places
pub mod Looking
pub mod Setting
pub mod Blocks
pub mod Playing

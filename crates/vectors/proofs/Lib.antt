-- What stands in a line, and lists made by calls.
pub mod LineLaws
pub mod Made

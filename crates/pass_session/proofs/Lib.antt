-- Laws of a block's line, of the lines of a chunk, and of the whole list.
pub mod BlockCases
pub mod RunLaws
pub mod TextLaws
pub mod ListLaws
pub mod LongLists

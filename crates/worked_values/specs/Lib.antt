pub mod PassList
pub mod Table

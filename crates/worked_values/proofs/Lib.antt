pub mod RatesAndFades
pub mod PassExample
pub mod PassListed
pub mod Proved

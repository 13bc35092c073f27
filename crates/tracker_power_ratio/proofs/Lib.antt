-- What the crates above cite: of a ring only the pairs pushed since the last reset are read.
pub mod LiveRing

-- The C interface: a channel in C's layout, and what the exported functions return and leave. The scope does not speak of it; proofs/RoundTrip.antt shows that
-- a channel that goes out comes back as it was.
pub mod Trackers
pub mod Channels
pub mod Calls
pub mod Version

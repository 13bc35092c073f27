-- Module 3, the measurement: z, the in-phase value, the power pair, the envelope and R of one sample, for the three modulations.
pub mod Numbers
pub mod Phase
pub mod Sample
pub mod Angle
pub mod Noise
pub mod Measurement
pub mod Code

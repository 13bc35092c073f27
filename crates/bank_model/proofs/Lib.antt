-- The order of samples and trackers does not matter: each tracker has a stretch of the window memory to itself.
pub mod FourStretches
pub mod SampleOrder

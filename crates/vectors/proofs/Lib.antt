-- The published results, computed.
pub mod Computed

-- What drafts say, their limits, and what is written of them.
pub mod Laws
pub mod Lengths
pub mod Limits
pub mod Says
pub mod Writing

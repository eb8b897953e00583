-- What a service answers for its state, the rules of sessions, and their laws.
pub mod Failures
pub mod Kept
pub mod Laws
pub mod Sessions
pub mod Writing

-- What several proofs share.
mod Schedules
mod Parsing
mod Padding
mod Streams
mod Keys
pub mod Digests

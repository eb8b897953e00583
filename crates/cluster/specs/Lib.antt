-- A group in one process: what stands at its seats, what an entry of a run does there, and what is promised.
pub mod Entries
pub mod Making
pub mod Members
pub mod Places
pub mod Promises

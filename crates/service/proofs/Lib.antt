-- The lemmas that the answers share, and those that other services cite.
mod Rows
pub mod Writes

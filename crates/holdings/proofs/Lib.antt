-- Lemmas on what a replica holds.
pub mod Agreeing
pub mod Ascending
pub mod Finding
pub mod Lists

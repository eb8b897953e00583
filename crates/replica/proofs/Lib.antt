-- Lemmas of the replica.
pub mod Leaving
pub mod Opening
pub mod Orders
pub mod Scratch
pub mod Tagging
pub mod Tests

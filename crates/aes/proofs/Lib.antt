-- The lemmas of the crate, and those that the crates above cite.
mod Cuts
mod SboxTable
mod Steps
pub mod Sums

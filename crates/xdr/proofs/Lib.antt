-- The lemmas that the answers share, and those that the crates above cite.
pub mod Exactness
pub mod Listing
pub mod Numbers
pub mod Opaque
pub mod Pasting
pub mod Rows
pub mod Widths
pub mod Writing

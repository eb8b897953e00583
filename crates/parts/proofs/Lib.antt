-- The lemmas that the answers share, and those that the crates above cite.
pub mod Chains
pub mod Exactness
pub mod Fronts
pub mod Lists
pub mod Requests

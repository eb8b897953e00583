-- The lemmas that the answers share.
pub mod Choosing
pub mod Finding
pub mod Founding
pub mod Lists
pub mod Orders
pub mod Sameness
pub mod Turns

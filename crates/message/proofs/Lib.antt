-- The lemmas that the answers share.
pub mod Decoding
pub mod Exactness
pub mod Fronts
pub mod Sizes

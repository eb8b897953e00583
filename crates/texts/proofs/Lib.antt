-- The lemmas that the answers share.
pub mod Decoding
pub mod Digits
pub mod Pairs
pub mod Pieces
pub mod Rows
pub mod Runs

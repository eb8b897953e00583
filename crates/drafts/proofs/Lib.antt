-- The lemmas that the answers share.
pub mod Holding
pub mod Limits
pub mod Pieces
pub mod Placed
pub mod Puts
pub mod Rows
pub mod Writing

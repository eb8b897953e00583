-- The standards' functions, and what hashes and tags in progress will give.
pub mod Sha256
pub mod Hmac
pub mod Progress

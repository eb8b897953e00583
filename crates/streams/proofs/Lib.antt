-- Lemmas that the crates of hashes and tags share.
pub mod Arrays

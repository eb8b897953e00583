-- The lemmas that the answers share.
mod Differences

-- The lemmas that the answers share.
mod Heads
mod Lines

-- The lemmas that the answers share.
mod Places
mod Reading
mod Sets
mod Written

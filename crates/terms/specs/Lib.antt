-- The group's numbers, pairs, quorums and refusals.
pub mod Numbers
pub mod Pairs
pub mod Quorums
pub mod Refusals

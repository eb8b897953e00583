-- The edges of the rules.
pub mod Edges

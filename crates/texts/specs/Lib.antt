-- The definitions that the contracts cite.
pub mod Cutting
pub mod Hexes
pub mod Lines
pub mod Numerals

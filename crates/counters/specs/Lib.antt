-- The tag rules of the two kinds, and how long their tags are.
pub mod Lengths
pub mod Rules

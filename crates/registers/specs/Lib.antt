-- The rules of the two registers, and their laws.
pub mod GlyphLaws
pub mod Glyphs
pub mod Operations
pub mod Release
pub mod ReleaseLaws
pub mod Rows

-- The messages that hold others, and any message.
pub mod Decoding
pub mod Encoding
pub mod Fits
pub mod Laws
pub mod Messages
pub mod Reading
pub mod Statements

-- The messages that hold no others: what they say, their bytes, how bytes are read, and for what they are tagged.
pub mod Encoding
pub mod Fits
pub mod Lists
pub mod Messages
pub mod Reading
pub mod Statements

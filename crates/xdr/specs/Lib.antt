-- What is written, what is read, and what the two owe one another.
pub mod Layout
pub mod Laws
pub mod Reading
pub mod Writing

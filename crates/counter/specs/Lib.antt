-- What a trusted counter means: kinds, statements, certificates, seats, and the laws of every counter.
pub mod Certificates
pub mod Kinds
pub mod Laws
pub mod Seats
pub mod Statements

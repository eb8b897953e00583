-- That an entry keeps the places those of a world of runs, and what agreement then says of them.
pub mod Making
pub mod Places
pub mod Playing
pub mod Promises
pub mod Seats

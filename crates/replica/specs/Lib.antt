-- A replica as the rules see it, and the PREPAREs that its counter certifies.
pub mod Judging
pub mod Signing
pub mod Standings

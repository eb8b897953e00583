-- What a replica holds, as plain values.
pub mod Changes
pub mod Claimed
pub mod Kept
pub mod Recorded

-- The definitions that the contracts cite.
pub mod Bytes
pub mod CounterEntries
pub mod Entries
pub mod GroupCalls
pub mod GroupEntries
pub mod Headers
pub mod Keys
pub mod Lengths
pub mod MailEntries
pub mod Tallies
pub mod Verbs
pub mod Words

-- The lemmas that the answers share.
pub mod Backs
pub mod BytesBacks
pub mod CallBacks
pub mod CounterBacks
pub mod GroupBacks
pub mod MailBacks
pub mod Written
pub mod Spelling

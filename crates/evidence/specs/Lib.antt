-- What a message has to show before it is believed.
pub mod Tags
pub mod Senders

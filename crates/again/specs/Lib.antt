-- What a NEW-VIEW stands on.
pub mod Foundation

-- Published results, as statements about the definitions.
pub mod Published

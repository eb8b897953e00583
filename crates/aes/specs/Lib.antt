-- FIPS 197 and RFC 4493: the field and the S-box, the cipher, the tag, and what the states stand for.
pub mod Cipher
pub mod Cmac
pub mod Field
pub mod Laws
pub mod Tags

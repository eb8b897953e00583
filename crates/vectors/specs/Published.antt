-- Published results of the standards' functions, as statements about the definitions that the contracts cite.
use Rattle.std.specs.Prelude.{◌≡◌, ℕ, zero, suc, ◌/◌, ◌%◌, List, [], ◌∷◌, ◌++◌, replicate, codes}
use Rattle.sha256.specs.Sha256.{sha256}
use Rattle.sha256.specs.Hmac.{hmac}
use Rattle.aes.specs.Cipher.{aes128}
use Rattle.aes.specs.Cmac.{subkey1, subkey2, cmac}

-- n bytes as one number, the most significant first
unfoldable pub bytes : ℕ → ℕ → List ℕ
bytes zero x = []
bytes (suc n) x = bytes n (x / 256) ++ (x % 256) ∷ []

-- the key of FIPS 197's appendix B and of RFC 4493's examples
unfoldable pub key : List ℕ
key = bytes 16 0x2b7e151628aed2a6abf7158809cf4f3c

pub record Published : Type 0 where
  -- FIPS 180-4's examples of one block and of two
  pub one_block : sha256 (codes "abc") ≡ bytes 32 0xba7816bf8f01cfea414140de5dae2223b00361a396177a9cb410ff61f20015ad
  pub two_blocks :
      sha256 (codes "abcdbcdecdefdefgefghfghighijhijkijkljklmklmnlmnomnopnopq")
      ≡ bytes 32 0x248d6a61d20638b8e5c026930c3e6039a33ce45964ff2167f6ecedd419db06c1
  -- RFC 4231, cases 1 and 6
  pub short_key : hmac (replicate 20 0x0b) (codes "Hi There") ≡ bytes 32 0xb0344c61d8db38535ca8afceaf0bf12b881dc200c9833da726e9376c2e32cff7
  pub long_key :
      hmac (replicate 131 0xaa) (codes "Test Using Larger Than Block-Size Key - Hash Key First")
      ≡ bytes 32 0x60e431591ee0b67f0d8a26aacbf5b77f8e0bc6213728c5140546040f0ee37f54
  -- FIPS 197, appendices B and C.1
  pub appendix_b : aes128 key (bytes 16 0x3243f6a8885a308d313198a2e0370734) ≡ bytes 16 0x3925841d02dc09fbdc118597196a0b32
  pub appendix_c : aes128 (bytes 16 0x000102030405060708090a0b0c0d0e0f) (bytes 16 0x00112233445566778899aabbccddeeff) ≡ bytes 16 0x69c4e0d86a7b0430d8cdb78070b4c55a
  -- RFC 4493, 4
  pub first_subkey : subkey1 (aes128 key) ≡ bytes 16 0xfbeed618357133667c85e08f7236a8de
  pub second_subkey : subkey2 (aes128 key) ≡ bytes 16 0xf7ddac306ae266ccf90bc11ee46d513b
  pub no_bytes : cmac key [] ≡ bytes 16 0xbb1d6929e95937287fa37d129b756746
  pub sixteen_bytes : cmac key (bytes 16 0x6bc1bee22e409f96e93d7e117393172a) ≡ bytes 16 0x070a16b46b4d4144f79bdd9dd04a287c
  pub forty_bytes :
      cmac key (bytes 40 0x6bc1bee22e409f96e93d7e117393172aae2d8a571e03ac9c9eb76fac45af8e5130c81c46a35ce411)
      ≡ bytes 16 0xdfa66747de9ae63030ca32611497c827
  pub sixty_four_bytes :
      cmac key (bytes 64 0x6bc1bee22e409f96e93d7e117393172aae2d8a571e03ac9c9eb76fac45af8e5130c81c46a35ce411e5fbc1191a0a52eff69f2445df4f9b17ad2b417be66c3710)
      ≡ bytes 16 0x51f0bebf7e3b9d92fc49741779363cfe

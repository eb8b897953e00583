-- Each published result holds by computation.
use Rattle.std.proofs.Common.{refl}
use Rattle.vectors.specs.Published.{Published, bytes, key}
use Rattle.sha256.specs.Sha256.{sha256, digest_bytes, hashed, compressed, rounds, round, extended, scheduled, words, word, parsed, blocks, padding, be64, H0, K, rotr}
use Rattle.sha256.specs.Hmac.{hmac, block_key, xored}
use Rattle.aes.specs.Field.{times, mul, power, inverse, affine_bit, from_bits, sbox}
use Rattle.aes.specs.Cipher.{xors, sub_bytes, mix_column, mix_columns, rcon, next_key, round_key, key_expansion, rounds as cipher_rounds, cipher}
use Rattle.aes.specs.Cmac.{shift_left, blocks as cmac_blocks, flag, block_at, padding as cmac_padding, chained, cmac_from}

pub published : Published
unfolding bytes key sha256 digest_bytes hashed compressed rounds round extended scheduled words word parsed blocks padding be64 H0 K rotr hmac block_key xored times mul power inverse affine_bit from_bits sbox xors sub_bytes mix_column mix_columns rcon next_key round_key key_expansion cipher_rounds cipher shift_left cmac_blocks flag block_at cmac_padding chained cmac_from
published =
    record {
      one_block = refl;
      two_blocks = refl;
      short_key = refl;
      long_key = refl;
      appendix_b = refl;
      appendix_c = refl;
      first_subkey = refl;
      second_subkey = refl;
      no_bytes = refl;
      sixteen_bytes = refl;
      forty_bytes = refl;
      sixty_four_bytes = refl;
    }

-- The tags that a ready key and a message in progress stand for. The model of either is a function: from a message to
-- its tag, and from the bytes that may still follow to the tag of all of them. So a new state, two updates and a finish
-- give the tag of the two parts together.
use Rattle.std.specs.Prelude.{ℕ, List, ◌≡◌, ◌++◌, take}
use Rattle.aes.specs.Cipher.{cipher}
use Rattle.aes.specs.Cmac.{cmac_by, cmac_from}
use Rattle.aes.specs.declared.macs.CmacKey.{CmacKey}
use Rattle.aes.specs.declared.states.Cmac.{Cmac}

-- the tag of m under a ready key
unfoldable pub tag_under : CmacKey → List ℕ → List ℕ
tag_under k m = cmac_by (cipher k.aes.keys) k.k1 k.k2 m

-- what finish gives once the rest too has come: the tag of the bytes that are held and the rest, from X on
unfoldable pub tag_after : Cmac → List ℕ → List ℕ
tag_after s rest = let k = s.key.now in cmac_from (cipher k.aes.keys) k.k1 k.k2 s.x (take s.fill s.buf ++ rest)

-- the bytes have come between the states s and t
abbrev pub TakesIn : Cmac → List ℕ → Cmac → Type 0
TakesIn s bytes t = (rest : List ℕ) → tag_after t rest ≡ tag_after s (bytes ++ rest)

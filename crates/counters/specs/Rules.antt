-- The tag rules of the two kinds of counters: a published function of the statement's bytes.
use Rattle.std.specs.Prelude.{ℕ, List, ◌++◌, replicate}
use Rattle.aes.specs.Cmac.{cmac}
use Rattle.counter.specs.Statements.{Stated, statement_bytes}
use Rattle.sha256.specs.Hmac.{hmac}

-- 16 zeros complete a tag of 16 bytes
abbrev pub filled_up : List ℕ → List ℕ
filled_up half = half ++ replicate 16 0

-- the tags under a key of 32 bytes, and under a key of 16
abbrev pub hmac_tag : List ℕ → List ℕ → List ℕ
hmac_tag key bytes = hmac key bytes

abbrev pub cmac_tag : List ℕ → List ℕ → List ℕ
cmac_tag key bytes = filled_up (cmac key bytes)

-- a tag rule: the tag of the statement's bytes
abbrev pub tag_rule : (List ℕ → List ℕ) → Stated → List ℕ
tag_rule tags s = tags (statement_bytes s)

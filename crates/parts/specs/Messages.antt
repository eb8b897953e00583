-- What PREPAREs, COMMITs and CHECKPOINTs say.
use Rattle.std.specs.Prelude.{ℕ, List}
use Rattle.terms.specs.declared.requests.Request.{Request}

-- the leader of a view proposes a request for an order
pub record Prepare : Type 0 where
  pub view : ℕ
  pub order : ℕ
  pub request : Request
  pub tag : List ℕ

-- a follower votes for what was proposed
pub record Commit : Type 0 where
  pub sender : ℕ
  pub view : ℕ
  pub order : ℕ
  pub request : Request
  pub tag : List ℕ

-- a replica tells the digest of its register behind the request of an order
pub record Checkpoint : Type 0 where
  pub sender : ℕ
  pub order : ℕ
  pub digest : List ℕ
  pub tag : List ℕ

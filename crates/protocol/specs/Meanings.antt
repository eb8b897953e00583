-- What a replica knows of its service, and of the digest that stands for a written state.
use Rattle.std.specs.Prelude.{ℕ, List}
use Rattle.terms.specs.declared.requests.Request.{Request}

pub record Meaning (St : Type 0) : Type 0 where
  -- the state after a request, and the reply
  pub next : St → Request → St
  pub reply : St → Request → ℕ × ℕ
  -- the bytes that stand for a state, and the digest of bytes
  pub written : St → List ℕ
  pub digest : List ℕ → List ℕ

abbrev pub meaning : {St : Type 0} → (St → Request → St) → (St → Request → ℕ × ℕ) → (St → List ℕ) → (List ℕ → List ℕ) → Meaning St
meaning next reply written digest = record { next = next; reply = reply; written = written; digest = digest }

-- What a reader expects of a service, and what sessions promise over any service.
use Rattle.std.specs.Prelude.{◌≡◌, ℕ, true, false, List, length, ◌≢◌, slice_index_or}
use Rattle.std.specs.List.{AllByRecursion}
use Rattle.terms.specs.declared.requests.Request.{Request}
use Rattle.service.specs.declared.kept.Kept.{Kept}
use Rattle.service.specs.Sessions.{clients, nothing_kept, is_new, session_reply, session_next}

-- the value that a reply with a status other than 0 has
abbrev pub Valueless : ℕ × ℕ → Type 0
Valueless reply = (reply.0 ≢ 0) → reply.1 ≡ 0

module _ {St : Type 0} (next : St → Request → St) (reply : St → Request → ℕ × ℕ) where
  -- a status other than 0 leaves the state as it was
  abbrev pub FailureChangesNothing : Type 0
  FailureChangesNothing = (s : St) (r : Request) → ((reply s r).0 ≢ 0) → next s r ≡ s

  -- a status other than 0 has value 0
  abbrev pub FailureHasNoValue : Type 0
  FailureHasNoValue = (s : St) (r : Request) → Valueless (reply s r)

  pub record SessionLaws : Type 0 where
    -- a new request is answered by the service below
    pub applied : (s : List Kept × St) (r : Request) → is_new s.0 r ≡ true → session_reply reply s r ≡ reply s.1 r
    -- its client's request of the same sequence gets the same reply again, whatever else it asks, and nothing is applied twice
    pub repeated : (s : List Kept × St) (r again : Request) → length s.0 ≡ clients → is_new s.0 r ≡ true → again.client ≡ r.client → again.sequence ≡ r.sequence
        → (session_reply reply (session_next next reply s r) again ≡ session_reply reply s r) × (session_next next reply (session_next next reply s r) again ≡ session_next next reply s r)
    -- a request that is not new changes nothing
    pub unchanged : (s : List Kept × St) (r : Request) → is_new s.0 r ≡ false → session_next next reply s r ≡ s
    -- what is kept of the other clients stays
    pub apart : (s : List Kept × St) (r : Request) (client : ℕ) → (client ≢ r.client) → slice_index_or (session_next next reply s r).0 client nothing_kept ≡ slice_index_or s.0 client nothing_kept
    -- if a failure changes nothing below, neither does one that sessions answer
    pub quiet : FailureChangesNothing → (s : List Kept × St) (r : Request) → ((session_reply reply s r).0 ≢ 0) → (session_next next reply s r).1 ≡ s.1
    -- if a failure has no value below, neither has one that sessions answer, now or after any request
    pub valueless : FailureHasNoValue → (s : List Kept × St) (r : Request) → AllByRecursion (λ k. Valueless k.reply) s.0
        → Valueless (session_reply reply s r) × AllByRecursion (λ k. Valueless k.reply) (session_next next reply s r).0

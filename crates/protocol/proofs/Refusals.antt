-- A call that is refused leaves the replica and the lent buffers as they were, and certifies nothing.
use Rattle.std.proofs.Common.{ℕ, List, Option, Some, None, ◌≡◌, Bool, true, false, [], is_ok, Ok, refl}
use Rattle.std.proofs.lemmas.Bool.{true≢false}
use Rattle.terms.specs.declared.refusals.Refusal.{Refusal}
use Rattle.terms.specs.declared.requests.Request.{Request}
use Rattle.counter.specs.Statements.{Stated}
use Rattle.message.specs.Decoding.{decode}
use Rattle.message.specs.declared.message.Message.{Message}
use Rattle.message.specs.declared.message.Message.TheVariants.{Prepare, Commit, Checkpoint, ViewChange, NewView}
use Rattle.protocol.specs.Ask.{asked}
use Rattle.protocol.specs.CarryOut.{carried_out, entry_carried_out}
use Rattle.protocol.specs.Mark.{marked}
use Rattle.protocol.specs.Meanings.{Meaning}
use Rattle.protocol.specs.Open.{opened}
use Rattle.protocol.specs.Outcomes.{Outcome, refuse, unless}
use Rattle.protocol.specs.Replicas.{Entry, Replica}
use Rattle.protocol.specs.Suspect.{suspected}
use Rattle.protocol.specs.Take.{taken, take_message}
use Rattle.protocol.specs.Vote.{voted, vote_cast}

module _ {A B St : Type 0} where
  -- if it is refused, the replica and the lent buffers are as they were, and nothing is certified
  pub record Calm (r : Replica St) (lent : B) (o : Outcome A B St) : Type 0 where
    pub stays : is_ok o.0 ≡ false → (o.1 ≡ r) × (o.2 ≡ lent) × (o.3 ≡ [])

  calm_refuse : (refusal : Refusal) (r : Replica St) (lent : B) → Calm r lent (refuse refusal r lent)
  calm_refuse refusal r lent = record { stays = λ e. (refl, refl, refl) }

  calm_answer : (r : Replica St) (lent : B) (answer : A) (after : Replica St) (given : B) (certified : List Stated) → Calm r lent (Ok answer, after, given, certified)
  calm_answer r lent answer after given certified = record { stays = λ e. absurd (true≢false e) }

  calm_unless : (b : Bool) (refusal : Refusal) (r : Replica St) (lent : B) (next : Outcome A B St)
      → Calm r lent next → Calm r lent (unless b refusal r lent next)
  calm_unless true refusal r lent next calm = calm_refuse refusal r lent
  calm_unless false refusal r lent next calm = calm

module _ {St : Type 0} where
  pub calm_asked : (r : Replica St) (request : Request) (out : List ℕ) → Calm r out (asked r request out)
  unfolding asked
  calm_asked r request out = search (calm_unless, calm_answer) depth 9

  calm_cast : (r : Replica St) (out : List ℕ) (first : Option Entry) → Calm r out (vote_cast r out first)
  calm_cast r out None = calm_refuse _ _ _
  calm_cast r out (Some e) = search (calm_unless, calm_answer)

  pub calm_voted : (r : Replica St) (out : List ℕ) → Calm r out (voted r out)
  unfolding voted
  calm_voted r out = search (calm_unless, calm_cast)

  calm_entry : (M : Meaning St) (r : Replica St) (next : Option Entry) → Calm r tt (entry_carried_out M r next)
  calm_entry M r None = calm_refuse _ _ _
  calm_entry M r (Some e) = search (calm_unless, calm_answer)

  pub calm_carried_out : (M : Meaning St) (r : Replica St) → Calm r tt (carried_out M r)
  unfolding carried_out
  calm_carried_out M r = search (calm_unless, calm_entry M r)

  pub calm_marked : (M : Meaning St) (r : Replica St) (scratch out : List ℕ) → Calm r (scratch, out) (marked M r scratch out)
  unfolding marked
  calm_marked M r scratch out = search (calm_unless, calm_answer)

  pub calm_suspected : (r : Replica St) (out : List ℕ) → Calm r out (suspected r out)
  unfolding suspected
  calm_suspected r out = search (calm_unless, calm_answer)

  pub calm_opened : (r : Replica St) (out : List ℕ) → Calm r out (opened r out)
  unfolding opened
  calm_opened r out = search (calm_unless, calm_answer) depth 9

  calm_message : (r : Replica St) (m : Option Message) → Calm r tt (take_message r m)
  calm_message r None = calm_refuse _ _ _
  calm_message r (Some (Prepare p)) = search (calm_unless, calm_answer) depth 12
  calm_message r (Some (Commit c)) = search (calm_unless, calm_answer) depth 12
  calm_message r (Some (Checkpoint c)) = search (calm_unless, calm_answer) depth 12
  calm_message r (Some (ViewChange c)) = search (calm_unless, calm_answer) depth 12
  calm_message r (Some (NewView w)) = search (calm_unless, calm_answer) depth 12

  pub calm_taken : (r : Replica St) (bytes : List ℕ) → Calm r tt (taken r bytes)
  unfolding taken
  calm_taken r bytes = calm_message r (decode bytes)

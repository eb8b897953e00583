-- *vote*: a follower votes for the first entry above what its counter shows.
use Rattle.std.specs.Prelude.{ℕ, not, List, [], ◌∷◌, Option, Some, None}
use Rattle.terms.specs.Pairs.{paired}
use Rattle.terms.specs.declared.refusals.Refusal.TheVariants.{OutTooShort, ViewClosed, WrongRole, NothingToDo, CounterRefuses}
use Rattle.counter.specs.declared.kinds.Kind.TheVariants.{Independent}
use Rattle.parts.specs.Messages.{Prepare, Commit as Vote}
use Rattle.parts.specs.Statements.{order_counter, commit_says}
use Rattle.message.specs.declared.message.Message.TheVariants.{Commit}
use Rattle.protocol.specs.Outcomes.{Outcome, refuse, unless, wrote}
use Rattle.protocol.specs.Replicas.{Entry, Replica}
use Rattle.protocol.specs.Standing.{too_short, leads, is_open, first_to_vote, grants, set_value, vote_added}

module _ {St : Type 0} where
  -- the COMMIT for a proposal, and with its tag
  abbrev pub bare_commit : Replica St → Prepare → Vote
  bare_commit r p = record { sender = r.seat; view = r.view; order = p.order; request = p.request; tag = [] }

  abbrev pub commit_for : Replica St → Prepare → Vote
  commit_for r p = record (bare_commit r p) { tag = r.rule (commit_says r.size (bare_commit r p)) }

  abbrev pub after_vote : Replica St → ℕ → Replica St
  after_vote r order = record r { values = set_value r order_counter (paired r.view order); entries = vote_added r.seat order r.entries }

  abbrev pub vote_cast : Replica St → List ℕ → Option Entry → Outcome (ℕ × ℕ) (List ℕ) St
  vote_cast r out None = refuse NothingToDo r out
  vote_cast r out (Some e) =
      unless (not (grants r Independent order_counter (paired r.view e.proposal.order))) CounterRefuses r out
      (wrote e.proposal.order (Commit (commit_for r e.proposal)) out (after_vote r e.proposal.order) (commit_says r.size (commit_for r e.proposal) ∷ []))

  unfoldable pub voted : Replica St → List ℕ → Outcome (ℕ × ℕ) (List ℕ) St
  voted r out =
      unless (too_short out) OutTooShort r out
      (unless (not (is_open r)) ViewClosed r out
      (unless (leads r) WrongRole r out
      (vote_cast r out (first_to_vote r))))

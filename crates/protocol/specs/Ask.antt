-- *ask*: the leader proposes a request for the order after its record's end, and votes for it.
use Rattle.std.specs.Prelude.{ℕ, ◌+◌, not, List, [], ◌∷◌, ◌++◌}
use Rattle.terms.specs.Pairs.{paired}
use Rattle.terms.specs.declared.refusals.Refusal.TheVariants.{OutTooShort, ViewClosed, WrongRole, BeyondWindow, NumbersExhausted, CounterRefuses}
use Rattle.terms.specs.declared.requests.Request.{Request}
use Rattle.counter.specs.declared.kinds.Kind.TheVariants.{Independent}
use Rattle.parts.specs.Messages.{Prepare as Proposal}
use Rattle.parts.specs.Statements.{order_counter, prepare_says}
use Rattle.message.specs.declared.message.Message.TheVariants.{Prepare}
use Rattle.protocol.specs.Outcomes.{Outcome, unless, wrote}
use Rattle.protocol.specs.Replicas.{Replica}
use Rattle.protocol.specs.Standing.{too_short, exhausted, leader, leads, is_open, end, beyond_window, grants, set_value, with_vote_of}

module _ {St : Type 0} where
  abbrev pub next_order : Replica St → ℕ
  next_order r = end r + 1

  -- a PREPARE with the tag of its statement
  abbrev pub tag_prepare : Replica St → Proposal → Proposal
  tag_prepare r p = record { view = p.view; order = p.order; request = p.request; tag = r.rule (prepare_says r.size p) }

  abbrev pub proposal : Replica St → Request → Proposal
  proposal r request = tag_prepare r (record { view = r.view; order = next_order r; request = request; tag = [] })

  -- the record goes on with a PREPARE, for which the leader votes
  abbrev pub extended : Replica St → Proposal → Replica St
  extended r p = record r { entries = r.entries ++ with_vote_of (leader r) p ∷ [] }

  abbrev pub after_ask : Replica St → Request → Replica St
  after_ask r request = record (extended r (proposal r request)) { values = set_value r order_counter (paired r.view (next_order r)) }

  unfoldable pub asked : Replica St → Request → List ℕ → Outcome (ℕ × ℕ) (List ℕ) St
  asked r request out =
      unless (too_short out) OutTooShort r out
      (unless (not (is_open r)) ViewClosed r out
      (unless (not (leads r)) WrongRole r out
      (unless (beyond_window r (next_order r)) BeyondWindow r out
      (unless (exhausted (next_order r)) NumbersExhausted r out
      (unless (not (grants r Independent order_counter (paired r.view (next_order r)))) CounterRefuses r out
      (wrote (next_order r) (Prepare (proposal r request)) out (after_ask r request) (prepare_says r.size (proposal r request) ∷ [])))))))

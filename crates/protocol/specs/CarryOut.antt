-- *carry out*: the request after the count is applied once a quorum voted for it.
use Rattle.std.specs.Prelude.{ℕ, ◌+◌, not, [], ◌||◌, Option, Some, None, Ok}
use Rattle.terms.specs.declared.refusals.Refusal.TheVariants.{ViewClosed, NothingToDo}
use Rattle.protocol.specs.Meanings.{Meaning}
use Rattle.protocol.specs.Outcomes.{Outcome, refuse, unless}
use Rattle.protocol.specs.Replicas.{Entry, Replica}
use Rattle.protocol.specs.Standing.{voted_by_quorum, is_open, entry_at, mark_owed, settled}

module _ {St : Type 0} (M : Meaning St) where
  abbrev pub after_carry_out : Replica St → Entry → Replica St
  after_carry_out r e = record r { count = r.count + 1; state = M.next r.state e.proposal.request }

  -- answers the order and the reply
  abbrev pub entry_carried_out : Replica St → Option Entry → Outcome (ℕ × (ℕ × ℕ)) (Unit {0}) St
  entry_carried_out r None = refuse NothingToDo r tt
  entry_carried_out r (Some e) =
      unless (not (voted_by_quorum r e) || mark_owed r) NothingToDo r tt
      (Ok (r.count + 1, M.reply r.state e.proposal.request), settled (after_carry_out r e), tt, [])

  unfoldable pub carried_out : Replica St → Outcome (ℕ × (ℕ × ℕ)) (Unit {0}) St
  carried_out r = unless (not (is_open r)) ViewClosed r tt (entry_carried_out r (entry_at (r.count + 1) r.entries))

-- *mark*: at a checkpoint that is not yet marked, a replica tells the digest of its written state.
use Rattle.std.specs.Prelude.{ℕ, not, List, [], ◌∷◌, length, Some, Ok, nat_lt, slice_set}
use Rattle.terms.specs.declared.refusals.Refusal.TheVariants.{OutTooShort, ScratchTooShort, NothingToDo, CounterRefuses}
use Rattle.counter.specs.declared.kinds.Kind.TheVariants.{Continuing}
use Rattle.parts.specs.Messages.{Checkpoint as Mark}
use Rattle.parts.specs.Statements.{checkpoint_counter, checkpoint_says}
use Rattle.xdr.specs.Layout.{pasted}
use Rattle.message.specs.Decoding.{encode}
use Rattle.message.specs.declared.message.Message.TheVariants.{Checkpoint}
use Rattle.protocol.specs.Meanings.{Meaning}
use Rattle.protocol.specs.Outcomes.{Outcome, unless}
use Rattle.protocol.specs.Replicas.{Replica}
use Rattle.protocol.specs.Standing.{too_short, mark_owed, grants, set_value, settled}

module _ {St : Type 0} where
  -- a CHECKPOINT takes its sender's place
  abbrev pub with_checkpoint : Replica St → Mark → Replica St
  with_checkpoint r c = record r { checkpoints = slice_set r.checkpoints c.sender (Some c) }

  module _ (M : Meaning St) where
    abbrev pub bare_mark : Replica St → Mark
    bare_mark r = record { sender = r.seat; order = r.count; digest = M.digest (M.written r.state); tag = [] }

    abbrev pub own_mark : Replica St → Mark
    own_mark r = record (bare_mark r) { tag = r.rule (checkpoint_says r.size (bare_mark r)) }

    abbrev pub after_mark : Replica St → Replica St
    after_mark r = record (with_checkpoint r (own_mark r)) { values = set_value r checkpoint_counter 0 }

    -- the scratch takes the written state, out the CHECKPOINT
    unfoldable pub marked : Replica St → List ℕ → List ℕ → Outcome (ℕ × ℕ) (List ℕ × List ℕ) St
    marked r scratch out =
        unless (too_short out) OutTooShort r (scratch, out)
        (unless (nat_lt (length scratch) (length (M.written r.state))) ScratchTooShort r (scratch, out)
        (unless (not (mark_owed r)) NothingToDo r (scratch, out)
        (unless (not (grants r Continuing checkpoint_counter 0)) CounterRefuses r (scratch, out)
        (Ok (r.count, length (encode (Checkpoint (own_mark r)))), settled (after_mark r), (pasted scratch 0 (M.written r.state), pasted out 0 (encode (Checkpoint (own_mark r)))), checkpoint_says r.size (own_mark r) ∷ []))))

-- Tests in their order: the first that holds stops a call.
use Rattle.std.specs.Prelude.{Bool, if◌then◌else◌, List, [], ◌∷◌, Ok, Err, Result}
use Rattle.terms.specs.declared.refusals.Refusal.{Refusal}
use Rattle.terms.specs.declared.refusals.Refusal.TheVariants.{WrongView, OwnMessage, NoSuchSender, BadTag, IncompleteViewChange, LowAhead, HistoryMissing}
use Rattle.std.specs.Prelude.{nat_le}
use Rattle.message.specs.Messages.{ViewChange as Change, NewView as Opening}
use Rattle.message.specs.declared.message.Message.TheVariants.{NewView}
use Rattle.protocol.specs.Outcomes.{Outcome, unless}
use Rattle.protocol.specs.Replicas.{Replica}
use Rattle.protocol.specs.Take.{leads_view, no_such_sender, bad_tag, any_incomplete, any_low_ahead, any_history_missing}

-- the refusal of the first test that holds
abbrev pub judged : List (Bool × Refusal) → Result (Unit {0}) Refusal
judged [] = Ok tt
judged (t ∷ ts) = if t.0 then Err t.1 else judged ts

module _ {A B St : Type 0} where
  -- a call that goes on if no test holds
  abbrev pub unless_any : List (Bool × Refusal) → Replica St → B → Outcome A B St → Outcome A B St
  unless_any [] r lent next = next
  unless_any (t ∷ ts) r lent next = unless t.0 t.1 r lent (unless_any ts r lent next)

module _ {St : Type 0} where
  -- the tests on a NEW-VIEW as a message
  abbrev pub message_tests : Replica St → Opening → List (Bool × Refusal)
  message_tests r w =
      (nat_le w.view r.from, WrongView) ∷ (leads_view r w.view, OwnMessage) ∷ (no_such_sender r (NewView w), NoSuchSender) ∷ (bad_tag r (NewView w), BadTag) ∷ []

  -- the tests on its VIEW-CHANGEs
  abbrev pub change_tests : Replica St → List Change → List (Bool × Refusal)
  change_tests r cs =
      (any_incomplete r cs, IncompleteViewChange) ∷ (any_low_ahead r cs, LowAhead) ∷ (any_history_missing r cs, HistoryMissing) ∷ []

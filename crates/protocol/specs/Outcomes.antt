-- What a call comes to: an answer or a refusal, the replica and the lent buffers afterwards, and the statements that its
-- counter certified, in their order.
use Rattle.std.specs.Prelude.{ℕ, Bool, true, false, List, [], length, Ok, Err, Result}
use Rattle.terms.specs.declared.refusals.Refusal.{Refusal}
use Rattle.counter.specs.Statements.{Stated}
use Rattle.xdr.specs.Layout.{pasted}
use Rattle.message.specs.Decoding.{encode}
use Rattle.message.specs.declared.message.Message.{Message}
use Rattle.protocol.specs.Replicas.{Replica}

-- A is what the call answers, B the buffers that it was lent
abbrev pub Outcome : Type 0 → Type 0 → Type 0 → Type 0
Outcome A B St = Result A Refusal × Replica St × B × List Stated

module _ {A B St : Type 0} where
  -- a refusal leaves all as it was
  abbrev pub refuse : Refusal → Replica St → B → Outcome A B St
  refuse refusal r lent = (Err refusal, r, lent, [])

  -- a call stops at the first rule that fits
  abbrev pub unless : Bool → Refusal → Replica St → B → Outcome A B St → Outcome A B St
  unless true refusal r lent next = refuse refusal r lent
  unless false refusal r lent next = next

-- an answered number and how many bytes were written: the message stands at the front of the buffer, and the bytes
-- behind it stay
abbrev pub wrote : {St : Type 0} → ℕ → Message → List ℕ → Replica St → List Stated → Outcome (ℕ × ℕ) (List ℕ) St
wrote answer m out after certified = (Ok (answer, length (encode m)), after, pasted out 0 (encode m), certified)

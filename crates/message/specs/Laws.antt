-- What messages and bytes owe one another.
use Rattle.std.specs.Prelude.{◌≡◌, ℕ, ◌+◌, ◌*◌, ◌≤◌, List, [], length, Some}
use Rattle.std.specs.List.{AllByRecursion, flat_map}
use Rattle.terms.specs.Numbers.{largest_quorum, window, prepare_bytes, commit_bytes, checkpoint_bytes, shortest_view_change, longest_view_change, shortest_new_view, longest_new_view}
use Rattle.terms.specs.Quorums.{quorum_of}
use Rattle.xdr.specs.Laws.{Bytes}
use Rattle.parts.specs.Encoding.{encode_prepare, encode_commit, encode_checkpoint}
use Rattle.parts.specs.Fits.{PrepareFits, CommitFits, CheckpointFits}
use Rattle.parts.specs.Messages.{Prepare as Prepared, Commit as Committed, Checkpoint as Checked}
use Rattle.message.specs.Decoding.{encode, decode}
use Rattle.message.specs.Encoding.{encode_view_change, encode_new_view}
use Rattle.message.specs.Fits.{ViewChangeFits, NewViewFits}
use Rattle.message.specs.Messages.{ViewChange as Changed, NewView as Viewed}
use Rattle.message.specs.declared.message.Message.{Message}
use Rattle.message.specs.declared.message.Message.TheVariants.{Prepare, Commit, Checkpoint, ViewChange, NewView}

-- a message within its limits
abbrev pub MessageFits : Message → Type 0
MessageFits (Prepare p) = PrepareFits p
MessageFits (Commit c) = CommitFits c
MessageFits (Checkpoint c) = CheckpointFits c
MessageFits (ViewChange c) = ViewChangeFits c
MessageFits (NewView n) = NewViewFits n

-- bytes are a message exactly if they are its encoding
pub record MessagesExact : Type 0 where
  -- every message within its limits is encoded to bytes that read back as itself
  pub back : (m : Message) → MessageFits m → decode (encode m) ≡ Some m
  -- bytes that read as a message are its encoding, and it is within its limits
  pub only : (bytes : List ℕ) (m : Message) → Bytes bytes → decode bytes ≡ Some m → (bytes ≡ encode m) × MessageFits m
  -- two messages with the same bytes are the same
  pub apart : (m k : Message) → MessageFits m → MessageFits k → encode m ≡ encode k → m ≡ k

-- a VIEW-CHANGE that holds nothing
abbrev pub Bare : Changed → Type 0
Bare c = (c.proof ≡ []) × (c.entries ≡ [])

-- a VIEW-CHANGE that holds all that it may
abbrev pub Full : Changed → Type 0
Full c = (length c.proof ≡ largest_quorum) × (length c.entries ≡ window)

-- how many bytes messages have
pub record MessageSizes : Type 0 where
  pub prepare : (p : Prepared) → PrepareFits p → length (encode_prepare p) ≡ prepare_bytes
  pub commit : (c : Committed) → CommitFits c → length (encode_commit c) ≡ commit_bytes
  pub checkpoint : (c : Checked) → CheckpointFits c → length (encode_checkpoint c) ≡ checkpoint_bytes
  -- each CHECKPOINT, VIEW-CHANGE and PREPARE that they hold adds its own
  pub view_change : (c : Changed) → ViewChangeFits c → length (encode_view_change c) ≡ shortest_view_change + checkpoint_bytes * length c.proof + prepare_bytes * length c.entries
  pub new_view : (n : Viewed) → NewViewFits n → length (encode_new_view n) ≡ shortest_new_view + length (flat_map encode_view_change n.changes) + prepare_bytes * length n.prepares
  -- the longest of the two kinds; no message is longer than the room that every call is lent
  pub full_change : (c : Changed) → ViewChangeFits c → Full c → length (encode_view_change c) ≡ longest_view_change
  pub full_view : (n : Viewed) → NewViewFits n → length n.changes ≡ largest_quorum → AllByRecursion Full n.changes → length n.prepares ≡ window → length (encode_new_view n) ≡ longest_new_view
  pub no_longer_change : (c : Changed) → ViewChangeFits c → length (encode_view_change c) ≤ longest_view_change
  pub no_longer : (m : Message) → MessageFits m → length (encode m) ≤ longest_new_view
  -- in a group of three: a NEW-VIEW with nothing proposed or proved
  pub bare_of_three : (n : Viewed) → NewViewFits n → length n.changes ≡ quorum_of 3 → AllByRecursion Bare n.changes → n.prepares ≡ [] → length (encode_new_view n) ≡ 184

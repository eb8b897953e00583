-- The edges of the rules, all in one statement: where a number just passes, and where it just does not.
use Rattle.std.specs.Prelude.{◌≡◌, ◌≢◌, ℕ, ◌<◌, true, false, List, [], length, Some, None, Ok, Err, Option, Result, slice_index, slice_index_or}
use Rattle.std.specs.List.{AllByRecursion}
use Rattle.terms.specs.Pairs.{paired}
use Rattle.terms.specs.Quorums.{quorum_of, fault_limit}
use Rattle.terms.specs.Refusals.{refusal_number}
use Rattle.terms.specs.declared.refusals.Refusal.{Refusal}
use Rattle.terms.specs.declared.requests.Request.{Request}
use Rattle.counter.specs.Certificates.{counters, certified}
use Rattle.counter.specs.Seats.{seat_checked}
use Rattle.counter.specs.Statements.{Stated}
use Rattle.counter.specs.declared.kinds.Kind.TheVariants.{Continuing, Independent}
use Rattle.message.specs.Decoding.{encode, decode}
use Rattle.message.specs.Fits.{NewViewFits}
use Rattle.message.specs.Laws.{Bare}
use Rattle.message.specs.Messages.{ViewChange, NewView}
use Rattle.message.specs.declared.message.Message.TheVariants.{ViewChange as ViewChanges, NewView as NewViews}
use Rattle.protocol.specs.Changes.{follow, complete}
use Rattle.protocol.specs.Replicas.{Replica}
use Rattle.protocol.specs.Standing.{is_open, note_of}
use Rattle.protocol.specs.Take.{bad_tag, taken}
use Rattle.registers.specs.Glyphs.{has_place, glyph_reply}
use Rattle.registers.specs.declared.glyph_rows.GlyphRow.{GlyphRow}

-- the number of a refusal; nothing for a call that passes
abbrev pub refused : {X : Type 0} → Result X Refusal → Option ℕ
refused (Ok x) = None
refused (Err refusal) = Some (refusal_number refusal)

-- a VIEW-CHANGE for view 1 of a seat whose counter shows its vote for order 3 of view 0, with no low mark: its entries are
-- of view 0, in turn from order 1 on
pub record AfterThirdVote (c : ViewChange) : Type 0 where
  pub target : c.target ≡ 1
  pub previous : c.previous ≡ paired 0 3
  pub from : c.from ≡ 0
  pub low : c.low ≡ 0
  pub proof : c.proof ≡ []
  pub entries : follow 0 0 c.entries ≡ true

-- a replica of a glyph register that waits for such a VIEW-CHANGE: view 1 is closed at it, it holds none of that sender, and
-- of view 0 it notes no more than that it began there. The sender is another seat of the group, and all tags are right
pub record Awaits (r : Replica (List GlyphRow)) (c : ViewChange) : Type 0 where
  pub view : r.view ≡ 1
  pub closed : is_open r ≡ false
  pub held : slice_index_or r.changes c.sender None ≡ None
  pub noted : note_of 0 r.noted ≡ Some (record { view = 0; low = 0; top = 0 })
  pub other : c.sender ≢ r.seat
  pub seated : c.sender < r.size
  pub tags : bad_tag r (ViewChanges c) ≡ false

pub record Edges : Type 0 where
  -- 3, 4 and 5 seats have quorums of 2, 3 and 3, and fault limits of 1, 1 and 2
  pub quorums : (quorum_of 3 ≡ 2) × (quorum_of 4 ≡ 3) × (quorum_of 5 ≡ 3)
  pub fault_limits : (fault_limit 3 ≡ 1) × (fault_limit 4 ≡ 1) × (fault_limit 5 ≡ 2)
  -- there is no group of 2 seats or of 6: refusal 1, whatever the seat
  pub too_few : (number : ℕ) → refused (seat_checked 2 number) ≡ Some 1
  pub too_many : (number : ℕ) → refused (seat_checked 6 number) ≡ Some 1
  -- the pair [2|5]
  pub pair : paired 2 5 ≡ 8589934597
  -- at the present value of any of its counters, a continuing certificate passes and an independent one is refusal 25
  pub continuing : (rule : Stated → List ℕ) (seat : ℕ) (values : List ℕ) (number : ℕ) (message : List ℕ) → number < counters
      → refused (certified rule seat values Continuing number (slice_index values number) message).0 ≡ None
  pub independent : (rule : Stated → List ℕ) (seat : ℕ) (values : List ℕ) (number : ℕ) (message : List ℕ) → number < counters
      → refused (certified rule seat values Independent number (slice_index values number) message).0 ≡ Some 25
  -- a NEW-VIEW of 3 seats with nothing proposed or proved has 184 bytes
  pub bare_new_view : (n : NewView) → NewViewFits n → length n.changes ≡ quorum_of 3 → AllByRecursion Bare n.changes → n.prepares ≡ [] → length (encode (NewViews n)) ≡ 184
  -- an advance of 65,535 is set where there is a place for the glyph, and one of 65,536 is status 1
  pub largest_advance : (rows : List GlyphRow) (r : Request) → r.code ≡ 1 → r.value ≡ 65535 → has_place rows r.key ≡ true → glyph_reply rows r ≡ (0, 65535)
  pub advance_too_large : (rows : List GlyphRow) (r : Request) → r.code ≡ 1 → r.value ≡ 65536 → glyph_reply rows r ≡ (1, 0)
  -- with two entries that VIEW-CHANGE leaves the vote for order 3 out: it is complete in no group, and is refusal 18. With
  -- three it is complete, and is taken
  pub vote_left_out : (n : ℕ) (c : ViewChange) → AfterThirdVote c → length c.entries ≡ 2 → complete n c ≡ false
  pub vote_told : (n : ℕ) (c : ViewChange) → AfterThirdVote c → length c.entries ≡ 3 → complete n c ≡ true
  pub left_out_refused : (r : Replica (List GlyphRow)) (c : ViewChange) (bytes : List ℕ) → decode bytes ≡ Some (ViewChanges c) → AfterThirdVote c → Awaits r c → length c.entries ≡ 2
      → refused (taken r bytes).0 ≡ Some 18
  pub told_taken : (r : Replica (List GlyphRow)) (c : ViewChange) (bytes : List ℕ) → decode bytes ≡ Some (ViewChanges c) → AfterThirdVote c → Awaits r c → length c.entries ≡ 3
      → refused (taken r bytes).0 ≡ None

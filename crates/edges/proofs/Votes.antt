-- A VIEW-CHANGE after the third vote is complete if it has three entries, and then it is taken.
use Rattle.std.proofs.Common.{◌≡◌, ℕ, Bool, true, false, not, ◌&&◌, List, [], ◌∷◌, length, Some, None, nat_le, ◌∙◌, ap, ap₂, ne_eqb, slice_index_or, ◌==◌, arith}
use Rattle.std.proofs.lemmas.Bool.Decides.{nat_tests}
use Rattle.message.specs.Decoding.{decode}
use Rattle.message.specs.Messages.{ViewChange}
use Rattle.message.specs.declared.message.Message.TheVariants.{ViewChange as ViewChanges}
use Rattle.protocol.specs.Changes.{last_order, complete}
use Rattle.protocol.specs.Replicas.{Replica}
use Rattle.protocol.specs.Standing.{is_held}
use Rattle.protocol.specs.Take.{no_such_sender, any_low_ahead, any_history_missing, taken}
use Rattle.protocol.proofs.Tests.{follow_told}
use Rattle.protocol.proofs.Turns.{turn_last}
use Rattle.registers.specs.declared.glyph_rows.GlyphRow.{GlyphRow}
use Rattle.edges.specs.Edges.{refused, AfterThirdVote, Awaits}

-- what its fields are
abbrev written_out : ViewChange → ViewChange
written_out c = record c { target = 1; previous = 3; from = 0; low = 0; proof = [] }

same : (c : ViewChange) → AfterThirdVote c → c ≡ written_out c
same c a = λ i. record c { target = a.target i; previous = a.previous i; from = a.from i; low = a.low i; proof = a.proof i }

pub complete_by : (n : ℕ) (c : ViewChange) → AfterThirdVote c → complete n c ≡ nat_le 3 (length c.entries)
complete_by n c a =
    let end : last_order 0 c.entries ≡ length c.entries = turn_last 0 0 c.entries (follow_told 0 0 c.entries a.entries) ∙ omega arith in
    ap (complete n) (same c a) ∙ ap₂ (λ (in_turn : Bool) (last : ℕ). in_turn && nat_le 3 last) a.entries end

module _ (r : Replica (List GlyphRow)) (c : ViewChange) (a : AfterThirdVote c) (w : Awaits r c) where
  -- the tests before that of completeness
  of_its_view : not (c.target == r.view) ≡ false
  of_its_view = grind (arith, nat_tests, a.target, w.view)

  of_another : (c.sender == r.seat) ≡ false
  of_another = ne_eqb c.sender r.seat w.other

  of_a_seat : no_such_sender r (ViewChanges c) ≡ false
  of_a_seat = rw a.proof (grind (arith, nat_tests, w.seated))

  not_held : is_held (slice_index_or r.changes c.sender None) ≡ false
  not_held = ap is_held w.held

  -- and those behind it
  not_ahead : any_low_ahead r (c ∷ []) ≡ false
  not_ahead = rw a.low (grind (arith, nat_tests))

  nothing_missing : any_history_missing r (c ∷ []) ≡ false
  nothing_missing = rw (a.from, w.noted) (grind (arith, nat_tests))

  pub left_out_refused : (bytes : List ℕ) → decode bytes ≡ Some (ViewChanges c) → complete r.size c ≡ false → refused (taken r bytes).0 ≡ Some 18
  unfolding taken
  left_out_refused bytes is e = rw (is, of_its_view, w.closed, of_another, of_a_seat, w.tags, not_held, e)

  pub told_taken : (bytes : List ℕ) → decode bytes ≡ Some (ViewChanges c) → complete r.size c ≡ true → refused (taken r bytes).0 ≡ None
  unfolding taken
  told_taken bytes is e = rw (is, of_its_view, w.closed, of_another, of_a_seat, w.tags, not_held, e, not_ahead, nothing_missing)

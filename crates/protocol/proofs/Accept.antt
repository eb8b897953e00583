-- A replica that accepts a NEW-VIEW, one that it judged or one that it wrote.
use Rattle.std.specs.Prelude.{if◌then◌else◌, max, nat_lt, true, false, Bool}
use Rattle.std.proofs.Common.{◌≡◌, ℕ, ◌-◌, ◌<◌, ◌≤◌, inl, inr, [], ◌∷◌, ◌++◌, length, map, refl, sym, ◌∙◌, ap, subst, arith}
use Rattle.std.proofs.lemmas.Bool.{ltb-true}
use Rattle.std.proofs.lemmas.List.{length-map}
use Rattle.terms.specs.Numbers.{window, largest_group, noted_views}
use Rattle.terms.specs.Quorums.{leader_of}
use Rattle.parts.specs.Fits.{IsInt}
use Rattle.parts.specs.Messages.{Prepare}
use Rattle.message.specs.Fits.{ViewChangeFits}
use Rattle.message.specs.Messages.{ViewChange, NewView}
use Rattle.message.specs.Statements.{view_change_says}
use Rattle.protocol.specs.Accept.{note_for, accepted}
use Rattle.protocol.specs.Again.{proposed_again}
use Rattle.protocol.specs.Changes.{last_order, last_of, low_of, top_of}
use Rattle.protocol.specs.Replicas.{Noted, Replica, nothing_held}
use Rattle.protocol.specs.Sets.{◌∈◌, Distinct}
use Rattle.protocol.specs.Standing.{with_vote_of, proposals, end}
use Rattle.protocol.specs.Take.{same_proposals}
use Rattle.protocol.proofs.Gathering.{again_run, again_reach, again_source, again_length}
use Rattle.protocol.proofs.Highest.{highest_least}
use Rattle.protocol.proofs.History.{Group, Past, InTurn, Prepared, Backed, Proved, Accepted}
use Rattle.protocol.proofs.Lists.{in_either, in_drop, in_map, in_filter}
use Rattle.protocol.proofs.Places.{placed_nothing}
use Rattle.protocol.proofs.Seats.{NotAhead, Stays, shows_on, EntryOk, HeldOk, ChangesOk, Holds, led_ok, wider}
use Rattle.protocol.proofs.Tests.{same_proposals_told, Judged}
use Rattle.protocol.proofs.Turns.{above, turn_view, turn_cut, proposals_with_vote}

module _ (g : Group) (h : Past) {St : Type 0} (r : Replica St) (H : Holds g h r) where
  -- a VIEW-CHANGE that passes the tests, and whose tags were issued, stands
  pub judged_held : (c : ViewChange) (target : ℕ) → ViewChangeFits c → view_change_says g.seats c ∈ h.log → Proved g h c.low c.proof
      → ((p : Prepare) → p ∈ c.entries → Prepared g h p)
      → c.sender < g.seats → c.target ≡ target → Judged r c → HeldOk g h target r.low c
  judged_held c target fits issued proved prepared seated aimed judged =
      let k = judged.noted in
      record {
        standing = record {
          issued = issued;
          fits = fits;
          complete = judged.complete;
          proved = proved;
          prepared = prepared;
          noted = subst (λ v. Backed g h v c.low (last_of c)) k.2 (wider g h _ _ _ _ _ (H.notes k.0 k.1) k.3 k.4);
        };
        aimed = aimed;
        not_above = judged.near;
        seated = seated;
      }

  -- a NEW-VIEW on a quorum of them that proposes what it must
  pub told_accepted : (w : NewView) → g.quorum ≤ length w.changes → Distinct (map (λ (c : ViewChange). c.sender) w.changes)
      → ((c : ViewChange) → c ∈ w.changes → HeldOk g h w.view r.low c)
      → same_proposals w.prepares (proposed_again w.view w.changes) ≡ true → ((p : Prepare) → p ∈ w.prepares → Prepared g h p)
      → Accepted g h w × (low_of w ≤ r.low) × (length w.prepares ≤ window)
  told_accepted w many distinct stands same prepared =
      let turns : (c : ViewChange) → c ∈ w.changes → InTurn c.from c.low c.entries = λ c m. (stands c m).standing.complete.run in
      let again = proposed_again w.view w.changes in
      let told = same_proposals_told w.view (low_of w) w.prepares again same (again_run w.view w.changes turns) in (
        record {
          quorum = record {
            many = many;
            distinct = distinct;
            seated = λ c m. (stands c m).seated;
            aimed = λ c m. (stands c m).aimed;
            standing = λ c m. (stands c m).standing;
          };
          run = told.run;
          prepared = prepared;
          reach = λ c m e. omega (arith, again_reach w.view w.changes turns c m (stands c m).standing.fits.7 e, told.last);
          source = λ p m.
              let q = told.source p m in
              let s = again_source w.view w.changes q.0 q.1 in
              (s.0, s.1, s.2, s.3, s.4, s.5 ∙ q.2, s.6 ∙ q.3);
        },
        highest_least (λ (c : ViewChange). c.low) w.changes r.low (λ c m. (stands c m).not_above),
        omega (arith, told.long, again_length w.view w.changes),
      )

  pub holds_entered : (w : NewView) → 0 < g.seats → r.size ≡ g.seats → w ∈ h.accepted → Accepted g h w → low_of w ≤ r.low → IsInt w.view
      → length w.prepares ≤ window → Holds g h (accepted r w)
  unfolding accepted
  holds_entered w some size i A l fits few =
      let leader = leader_of r.size w.view in
      let kept = above r.low w.prepares in
      let cut = turn_cut w.view (low_of w) r.low w.prepares A.run l in
      record {
        entries = record {
          run = subst (InTurn w.view r.low) (sym (proposals_with_vote leader kept)) cut.0;
          few = omega (arith, few, cut.2, length-map kept (with_vote_of leader));
          each = λ e m.
              let p = in_map (with_vote_of leader) e kept m in
              let j = (in_filter _ p.0 w.prepares p.1).0 in
              let v = turn_view w.view (low_of w) w.prepares p.0 A.run j in
              subst (EntryOk g h) (sym p.2) (led_ok g h p.0 leader (ap (λ n. leader_of n w.view) size ∙ ap (leader_of g.seats) (sym v)) (omega (arith, size)) (A.prepared p.0 j));
          backed = inr (w, i, refl, l, subst (λ ps. top_of w ≤ last_order r.low ps) (sym (proposals_with_vote leader kept)) cut.1);
        };
        notes = λ k m. elim (in_either k r.noted (note_for w ∷ []) (in_drop k (length (r.noted ++ note_for w ∷ []) - noted_views) _ m)) [
          | inl j ↦ H.notes k j
          | inr j ↦ elim j [
            | inl e ↦ inr (w, i, sym (ap (λ (x : Noted). x.view) e), omega (arith, ap (λ (x : Noted). x.low) e), omega (arith, ap (λ (x : Noted). x.top) e))
            | inr none ↦ absurd none
          ]
        ];
        behind = omega arith;
        changes = still (nat_lt w.view r.view) refl;
        numbers = record {
          view_fits = omega (arith, fits, H.numbers.view_fits);
          low_fits = H.numbers.low_fits;
          count_fits = H.numbers.count_fits;
          low_counted = H.numbers.low_counted;
        };
        marks = H.marks;
      }
    where
      still : (b : Bool) → nat_lt w.view r.view ≡ b → ChangesOk g h (max r.view w.view) r.low (if b then r.changes else nothing_held)
      still true e = record {
        each = λ c m. let k = H.changes.each c m in record { standing = k.standing; aimed = k.aimed ∙ omega (arith, ltb-true _ _ e); not_above = k.not_above; seated = k.seated };
        placed = H.changes.placed;
      }
      still false e = record { each = λ c m. absurd m; placed = placed_nothing (λ (c : ViewChange). c.sender) 0 largest_group }

  pub shows_entered : (w : NewView) (now : ℕ) → NotAhead now r.view r.from (end r) → r.from < w.view → NotAhead now (accepted r w).view (accepted r w).from (end (accepted r w))
  unfolding accepted
  shows_entered w now S newer = shows_on now r.view r.from (end r) _ _ _ S (omega arith) (omega arith) (λ e. absurd (omega (arith, e, newer)))

  -- the end of the record after it is not below the NEW-VIEW's top
  pub entered_end : (w : NewView) → InTurn w.view (low_of w) w.prepares → low_of w ≤ r.low → top_of w ≤ end (accepted r w)
  unfolding accepted
  entered_end w run l =
      let kept = above r.low w.prepares in
      subst (λ ps. top_of w ≤ last_order r.low ps) (sym (proposals_with_vote (leader_of r.size w.view) kept)) (turn_cut w.view (low_of w) r.low w.prepares run l).1

-- what accepting leaves besides, and where its PREPAREs come from
pub record Entered {St : Type 0} (r q : Replica St) (w : NewView) : Type 0 where
  pub stays : Stays r q
  pub view : q.view ≡ max r.view w.view
  pub entries : (p : Prepare) → p ∈ proposals q.entries → p ∈ w.prepares

pub entered : {St : Type 0} (r : Replica St) (w : NewView) → Entered r (accepted r w) w
unfolding accepted
entered r w = record {
  stays = record { size = refl; seat = refl; rule = refl; values = refl; count = refl; state = refl };
  view = refl;
  entries = λ p m. (in_filter _ p w.prepares (subst (λ ps. p ∈ ps) (proposals_with_vote (leader_of r.size w.view) (above r.low w.prepares)) m)).0;
}

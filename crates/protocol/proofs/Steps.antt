-- What the calls of a correct seat have in common: the ground on which they stand, that what was written or taken reads as
-- the message, a call that certifies nothing or one statement, and what moving low leaves as it was.
use Rattle.std.specs.Prelude.{slice_index, slice_set, max, Option, Some, None, find}
use Rattle.std.proofs.Common.{◌≡◌, ℕ, ◌<◌, ◌≤◌, ◌⊎◌, inl, inr, List, [], ◌∷◌, ◌++◌, length, refl, sym, ◌∙◌, ap, subst, arith, take, drop, true, is_ok}
use Rattle.std.proofs.lemmas.List.{get_or-set_same, take_at}
use Rattle.terms.specs.Numbers.{largest_group, tag_bytes, digest_bytes}
use Rattle.terms.specs.Pairs.{paired}
use Rattle.terms.specs.Quorums.{quorum_of}
use Rattle.counter.specs.Statements.{Stated}
use Rattle.xdr.specs.Layout.{pasted}
use Rattle.xdr.proofs.Pasting.{pasted_front}
use Rattle.parts.specs.Fits.{IsInt, PrepareFits, CheckpointFits}
use Rattle.parts.specs.Messages.{Prepare, Checkpoint}
use Rattle.parts.specs.Statements.{order_counter, prepare_says, commit_says, checkpoint_says}
use Rattle.message.specs.Decoding.{encode, decode}
use Rattle.message.specs.Fits.{ViewChangeFits}
use Rattle.message.specs.Laws.{MessageFits}
use Rattle.message.specs.Messages.{ViewChange}
use Rattle.message.specs.Statements.{view_change_says}
use Rattle.message.specs.declared.message.Message.{Message}
use Rattle.message.proofs.Decoding.{messages_exact}
use Rattle.protocol.specs.Meanings.{Meaning}
use Rattle.protocol.specs.Outcomes.{Outcome, wrote}
use Rattle.protocol.specs.Replicas.{Replica}
use Rattle.protocol.specs.Runs.{History, Member, Came, by_writing, by_taking, proposals_of, new_views_of, entered_view}
use Rattle.protocol.specs.Sets.{◌∈◌}
use Rattle.protocol.specs.Standing.{end, proposals, held_checkpoints, settles, lowered, settled}
use Rattle.protocol.specs.Take.{took}
use Rattle.protocol.proofs.Growth.{Longer, later, later_longer, prepared_grows}
use Rattle.protocol.proofs.History.{Group, Past, Prepared, Opened, Standing, Cause, Sound, Legal, commit_of}
use Rattle.protocol.proofs.Keeping.{Told, Founded, Fine, Kept, reached_grows}
use Rattle.protocol.proofs.Lists.{in_left, in_right, in_either, in_filter}
use Rattle.protocol.proofs.Seats.{NotAhead, Stays, Holds, holds_settled, shows_settled, shows_vote}
use Rattle.protocol.proofs.Turns.{proposals_above}
use Rattle.protocol.proofs.Values.{Matches}

-- what a group is founded on, as far as its calls need it
pub record Ground (g : Group) (rule : Stated → List ℕ) (digest : List ℕ → List ℕ) : Type 0 where
  pub some : 0 < g.seats
  pub small : g.seats ≤ largest_group
  pub quorum : g.quorum ≡ quorum_of g.seats
  pub tags : (s : Stated) → length (rule s) ≡ tag_bytes
  pub digests : (bytes : List ℕ) → length (digest bytes) ≡ digest_bytes

-- what moving low leaves besides, and where its entries come from
record Settled {St : Type 0} (r q : Replica St) : Type 0 where
  stays : Stays r q
  view : q.view ≡ r.view
  entries : (p : Prepare) → p ∈ proposals q.entries → p ∈ proposals r.entries

after_settling : {St : Type 0} (r : Replica St) → Settled r (settled r)
unfolding settled
after_settling r = go (find (settles r) (held_checkpoints r))
  where
    go : (found : Option Checkpoint) → Settled r (lowered r found)
    go None = record { stays = record { size = refl; seat = refl; rule = refl; values = refl; count = refl; state = refl }; view = refl; entries = λ p m. m }
    go (Some c) = record {
      stays = record { size = refl; seat = refl; rule = refl; values = refl; count = refl; state = refl };
      view = refl;
      entries = λ p m. (in_filter _ p (proposals r.entries) (subst (λ ps. p ∈ ps) (proposals_above c.order r.entries) m)).0;
    }

-- the past once a statement is certified
abbrev pub with_one : Past → Stated → Past
with_one h x = later h (x ∷ []) []

pub longer_one : (h : Past) (x : Stated) → Longer h (with_one h x)
longer_one h x = later_longer h (x ∷ []) []

-- an open view, above the low mark
pub opened_here : (g : Group) (h k : Past) {St : Type 0} (r : Replica St) (order : ℕ) → Holds g h r → Longer h k → r.from ≡ r.view → r.low < order → Opened g k r.view order
opened_here g h k r order H longer here above = elim H.entries.backed [
  | inl z ↦ inl (sym here ∙ z)
  | inr b ↦ inr (b.0, longer.accepted b.0 b.1, b.2 ∙ here, omega (arith, b.3))
]

-- the value that an order message leaves in the counter is a vote for an order of the record
pub shows_now : (values : List ℕ) (view from order end : ℕ) → order_counter < length values → from ≡ view → order ≤ end → IsInt order
    → NotAhead (slice_index (slice_set values order_counter (paired view order)) order_counter) view from end
shows_now values view from order end inside here within small =
    subst (λ now. NotAhead now view from end) (sym (get_or-set_same values order_counter (paired view order) 0 inside))
    (shows_vote view from end order here within small)

-- what was written to a buffer reads back
pub written_reads : (m : Message) (out : List ℕ) → MessageFits m → decode (take (length (encode m)) (pasted out 0 (encode m))) ≡ Some m
written_reads m out fits =
    let front : take (length (encode m)) (pasted out 0 (encode m)) ≡ encode m = rw (pasted_front out (encode m)) (take_at (encode m) (drop (length (encode m)) out) (length (encode m)) refl) in
    ap decode front ∙ messages_exact.back m fits

-- what a call comes to that leaves a replica and certifies statements, where the bytes that it wrote or took read as a
-- message
abbrev pub came : {St : Type 0} → History → Option Message → Replica St → List Stated → Came St
came y read r certified = record {
  member = record { replica = r; history = record y { seen = proposals_of read ++ y.seen; view = max y.view (entered_view (new_views_of read)) } };
  certified = certified;
  entered = new_views_of read;
}

module _ (g : Group) {St : Type 0} (M : Meaning St) (start : St) (rule : Stated → List ℕ) where
  pub fine_settled : (G : Ground g rule M.digest) (k : Past) (seat : ℕ) (r : Replica St) (y : History)
      → Fine g M start rule k seat (record { replica = r; history = y }) → Fine g M start rule k seat (record { replica = settled r; history = y })
  fine_settled G k seat r y F =
      let after = after_settling r in
      let s = after.stays in
      let size : r.size ≡ g.seats = F.founded.size in
      record {
        founded = record { size = s.size ∙ size; seat = s.seat ∙ F.founded.seat; rule = s.rule ∙ F.founded.rule };
        holds = holds_settled g k r F.holds (omega (arith, size, G.quorum)) (omega (arith, size, G.small));
        shows = subst (λ vs. NotAhead (slice_index vs order_counter) (settled r).view (settled r).from (end (settled r))) (sym s.values) (shows_settled g k r F.holds _ F.shows);
        matches = subst (Matches k.log seat) (sym s.values) F.matches;
        saw = record { issued = F.saw.issued; entries = λ p m. F.saw.entries p (after.entries p m) };
        view = F.view ∙ sym after.view;
        reached = record { counted = F.reached.counted ∙ sym s.count; made = s.state ∙ F.reached.made; done = F.reached.done };
      }

  module _ (h : Past) (seat : ℕ) where
    -- what is to be shown of a call, whatever it comes to in a run
    abbrev pub KeptIfAnswered : {A B : Type 0} → (Outcome A B St → Came St) → Outcome A B St → Type 0
    KeptIfAnswered comes_to o = is_ok o.0 ≡ true → Kept g M start rule h seat (comes_to o)

    -- a call that certifies nothing, and accepts nothing
    pub kept_quiet : (m : Member St) → Legal h.log → Fine g M start rule h seat m → Kept g M start rule h seat (record { member = m; certified = []; entered = [] })
    kept_quiet m legal F = record {
      fine = F;
      legal = legal;
      by = λ x i. absurd i;
      views = λ w i. absurd i;
      changes = λ x f i. absurd i;
      asks = λ p f i. absurd i;
      commits = λ p t f s i. absurd i;
      tells = λ c f i. absurd i;
    }

    -- a call that certifies one statement
    pub kept_one : (m : Member St) (x : Stated) → Fine g M start rule (with_one h x) seat m → Legal (x ∷ h.log) → x.seat ≡ seat
        → ((c : ViewChange) → ViewChangeFits c → view_change_says g.seats c ≡ x → Standing g (with_one h x) c × Cause g (with_one h x) c)
        → ((p : Prepare) → PrepareFits p → prepare_says g.seats p ≡ x → Sound g (with_one h x) p)
        → ((p : Prepare) (t : ℕ) → PrepareFits p → IsInt t → commit_says g.seats (commit_of t p) ≡ x → Sound g (with_one h x) p)
        → ((c : Checkpoint) → CheckpointFits c → checkpoint_says g.seats c ≡ x → Told g (with_one h x) M start c)
        → Kept g M start rule h seat (record { member = m; certified = x ∷ []; entered = [] })
    kept_one m x F legal by changes asks commits tells = record {
      fine = F;
      legal = legal;
      by = λ s i. elim i [ inl e ↦ ap (λ (u : Stated). u.seat) e ∙ by | inr none ↦ absurd none ];
      views = λ w i. absurd i;
      changes = λ c f i. elim i [ inl e ↦ changes c f e | inr none ↦ absurd none ];
      asks = λ p f i. elim i [ inl e ↦ asks p f e | inr none ↦ absurd none ];
      commits = λ p t f s i. elim i [ inl e ↦ commits p t f s e | inr none ↦ absurd none ];
      tells = λ c f i. elim i [ inl e ↦ tells c f e | inr none ↦ absurd none ];
    }

    -- bytes that were written, and bytes that were taken, read as the message
    pub kept_written : (y : History) (answer : ℕ) (m : Message) (out : List ℕ) (r : Replica St) (certified : List Stated) → MessageFits m
        → Kept g M start rule h seat (came y (Some m) r certified) → Kept g M start rule h seat (by_writing y (wrote answer m out r certified))
    kept_written y answer m out r certified fits kept = subst (λ read. Kept g M start rule h seat (came y read r certified)) (sym (written_reads m out fits)) kept

    pub kept_taken : (y : History) (bytes : List ℕ) (m : Message) (after : Replica St) → decode bytes ≡ Some m
        → Kept g M start rule h seat (came y (Some m) (settled after) []) → Kept g M start rule h seat (by_taking bytes y (took m after))
    kept_taken y bytes m after reads kept = subst (λ read. Kept g M start rule h seat (came y read (settled after) [])) (sym reads) kept

    -- the seat after a call by which it carried nothing out
    pub fine_on : (r q : Replica St) (y : History) (k : Past) (new : List Prepare) (v : ℕ) → Fine g M start rule h seat (record { replica = r; history = y }) → Longer h k
        → Founded g.seats seat rule q → Holds g k q → NotAhead (slice_index q.values order_counter) q.view q.from (end q) → Matches k.log seat q.values
        → ((p : Prepare) → p ∈ new → Prepared g k p) → ((p : Prepare) → p ∈ proposals q.entries → (p ∈ new) ⊎ (p ∈ proposals r.entries))
        → max r.view v ≡ q.view → q.count ≡ r.count → q.state ≡ r.state
        → Fine g M start rule k seat (record { replica = q; history = record y { seen = new ++ y.seen; view = max y.view v } })
    fine_on r q y k new v F longer founded holds shows matches prepared entries view count state =
        let past = reached_grows g h k longer M.next start y.carried r.count r.state F.reached in
        record {
          founded = founded;
          holds = holds;
          shows = shows;
          matches = matches;
          saw = record {
            issued = λ p m. elim (in_either p new y.seen m) [ inl i ↦ prepared p i | inr i ↦ prepared_grows g h k longer p (F.saw.issued p i) ];
            entries = λ p m. elim (entries p m) [ inl i ↦ in_left p new y.seen i | inr i ↦ in_right p new y.seen (F.saw.entries p i) ];
          };
          view = ap (λ u. max u v) F.view ∙ view;
          reached = record { counted = past.counted ∙ sym count; made = state ∙ past.made; done = past.done };
        }

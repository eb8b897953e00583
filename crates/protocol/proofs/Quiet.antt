-- A refused call leaves the world as it was.
use Rattle.std.proofs.Common.{◌≡◌, ℕ, max, false, ◌==◌, List, [], ◌++◌, None, Ok, Err, Result, is_ok, refl, sym, ap, ◌∙◌, arith}
use Rattle.std.proofs.lemmas.Bool.{true≢false, cond_both, eqb-true}
use Rattle.terms.specs.declared.refusals.Refusal.{Refusal}
use Rattle.counter.specs.Statements.{Stated}
use Rattle.message.specs.Decoding.{decode}
use Rattle.protocol.specs.Meanings.{Meaning}
use Rattle.protocol.specs.Outcomes.{Outcome}
use Rattle.protocol.specs.Refusals.{answered, RefusalsLeaveAll}
use Rattle.protocol.specs.Replicas.{Replica}
use Rattle.protocol.specs.Runs.{Call, History, Member, World, Came, at_seat, put_on, written_bytes, taken_bytes, witnessed, gave_up, gained, by_writing, by_suspecting, by_marking, by_taking, by_carrying_out, called, came_to, new_views_of}
use Rattle.protocol.specs.Runs.Call.{Ask, Take, Vote, CarryOut, Mark, Suspect, Open}
use Rattle.protocol.proofs.Refusals.{Calm, calm_asked, calm_voted, calm_carried_out, calm_marked, calm_suspected, calm_opened, calm_taken}

-- no bytes are no message, so a history does not grow by them
nothing_read : decode [] ≡ None
unfolding decode
nothing_read = refl

nothing_entered : new_views_of (decode []) ≡ []
nothing_entered = ap new_views_of nothing_read

no_view_rises : (h : History) → record h { view = max h.view 0 } ≡ h
no_view_rises h = let same : max h.view 0 ≡ h.view = omega arith in λ i. record h { view = same i }

nothing_witnessed : (h : History) → witnessed [] h ≡ h
nothing_witnessed h = rw nothing_read (no_view_rises h)

-- a refusal writes and takes no bytes, and carries nothing out
nothing_written : (answer : Result (ℕ × ℕ) Refusal) (out : List ℕ) → is_ok answer ≡ false → written_bytes answer out ≡ []
nothing_written (Ok a) out refused = absurd (true≢false refused)
nothing_written (Err refusal) out refused = refl

nothing_taken : (answer : Result ℕ Refusal) (bytes : List ℕ) → is_ok answer ≡ false → taken_bytes answer bytes ≡ []
nothing_taken (Ok a) bytes refused = absurd (true≢false refused)
nothing_taken (Err refusal) bytes refused = refl

nothing_gained : (answer : Result (ℕ × (ℕ × ℕ)) Refusal) (h : History) → is_ok answer ≡ false → gained answer h ≡ h
nothing_gained (Ok a) h refused = absurd (true≢false refused)
nothing_gained (Err refusal) h refused = refl

nothing_given_up : (answer : Result (ℕ × ℕ) Refusal) (h : History) → is_ok answer ≡ false → gave_up answer h ≡ h
nothing_given_up (Ok a) h refused = absurd (true≢false refused)
nothing_given_up (Err refusal) h refused = no_view_rises h

module _ {St : Type 0} where
  -- a call that comes to nothing
  record Nothing (m : Member St) (c : Came St) : Type 0 where
    same : c.member ≡ m
    certified : c.certified ≡ []
    entered : c.entered ≡ []

  same_member : (m : Member St) (r : Replica St) (h : History) → r ≡ m.replica → h ≡ m.history → record { replica = r; history = h } ≡ m
  same_member m r h e f = λ i. record { replica = e i; history = f i }

  by_no_bytes : (m : Member St) (r : Replica St) (bytes : List ℕ) (certified : List Stated) → bytes ≡ [] → r ≡ m.replica → certified ≡ []
      → Nothing m (record { member = record { replica = r; history = witnessed bytes m.history }; certified = certified; entered = new_views_of (decode bytes) })
  by_no_bytes m r bytes certified none stays uncertified = record {
    same = same_member m r _ stays (ap (λ b. witnessed b m.history) none ∙ nothing_witnessed m.history);
    certified = uncertified;
    entered = ap (λ b. new_views_of (decode b)) none ∙ nothing_entered;
  }

  writes_nothing : (m : Member St) (out : List ℕ) (o : Outcome (ℕ × ℕ) (List ℕ) St) → Calm m.replica out o → is_ok o.0 ≡ false → Nothing m (by_writing m.history o)
  writes_nothing m out o calm refused =
      let left = calm.stays refused in
      by_no_bytes m o.1 (written_bytes o.0 o.2) o.3 (nothing_written o.0 o.2 refused) left.0 left.2

  marks_nothing : (m : Member St) (lent : List ℕ × List ℕ) (o : Outcome (ℕ × ℕ) (List ℕ × List ℕ) St) → Calm m.replica lent o → is_ok o.0 ≡ false
      → Nothing m (by_marking m.history o)
  marks_nothing m lent o calm refused =
      let left = calm.stays refused in
      by_no_bytes m o.1 (written_bytes o.0 o.2.1) o.3 (nothing_written o.0 o.2.1 refused) left.0 left.2

  takes_nothing : (m : Member St) (bytes : List ℕ) (o : Outcome ℕ (Unit {0}) St) → Calm m.replica tt o → is_ok o.0 ≡ false → Nothing m (by_taking bytes m.history o)
  takes_nothing m bytes o calm refused =
      let left = calm.stays refused in
      by_no_bytes m o.1 (taken_bytes o.0 bytes) o.3 (nothing_taken o.0 bytes refused) left.0 left.2

  carries_nothing : (m : Member St) (o : Outcome (ℕ × (ℕ × ℕ)) (Unit {0}) St) → Calm m.replica tt o → is_ok o.0 ≡ false → Nothing m (by_carrying_out m.history o)
  carries_nothing m o calm refused =
      let left = calm.stays refused in
      record { same = same_member m o.1 _ left.0 (nothing_gained o.0 m.history refused); certified = left.2; entered = refl }

  suspects_nothing : (m : Member St) (out : List ℕ) (o : Outcome (ℕ × ℕ) (List ℕ) St) → Calm m.replica out o → is_ok o.0 ≡ false → Nothing m (by_suspecting m.history o)
  suspects_nothing m out o calm refused =
      let n = writes_nothing m out o calm refused in
      record {
        same = same_member m o.1 _ (calm.stays refused).0 (nothing_given_up o.0 _ refused ∙ ap (λ (x : Member St). x.history) n.same);
        certified = n.certified;
        entered = n.entered;
      }

  comes_to_nothing : (M : Meaning St) (m : Member St) (c : Call) → answered M m.replica c ≡ false → Nothing m (called M m c)
  comes_to_nothing M m (Ask request out) refused = writes_nothing m out _ (calm_asked m.replica request out) refused
  comes_to_nothing M m (Take bytes) refused = takes_nothing m bytes _ (calm_taken m.replica bytes) refused
  comes_to_nothing M m (Vote out) refused = writes_nothing m out _ (calm_voted m.replica out) refused
  comes_to_nothing M m CarryOut refused = carries_nothing m _ (calm_carried_out M m.replica) refused
  comes_to_nothing M m (Mark scratch out) refused = marks_nothing m _ _ (calm_marked M m.replica scratch out) refused
  comes_to_nothing M m (Suspect out) refused = suspects_nothing m out _ (calm_suspected m.replica out) refused
  comes_to_nothing M m (Open out) refused = writes_nothing m out _ (calm_opened m.replica out) refused

  -- what stood at a seat is put there again
  put_back : (members : ℕ → Member St) (s other : ℕ) (m : Member St) → m ≡ members s → at_seat s m members other ≡ members other
  put_back members s other m e = cond_both (other == s) m (members other) (λ x. x ≡ members other) (λ here. e ∙ ap members (sym (eqb-true other s here))) (λ there. refl)

  pub refused_changes_nothing : (M : Meaning St) (w : World St) (s : ℕ) (c : Call) → answered M (w.members s).replica c ≡ false → came_to w s (called M (w.members s) c) ≡ w
  refused_changes_nothing M w s c refused =
      let none = comes_to_nothing M (w.members s) c refused in
      λ i. record {
        members = λ other. put_back w.members s other _ none.same i;
        others = w.others;
        issued = put_on (none.certified i) w.issued;
        accepted = none.entered i ++ w.accepted;
      }

  pub refusals_leave_all : (M : Meaning St) → RefusalsLeaveAll M
  refusals_leave_all M = record {
    ask = λ r request out. (calm_asked r request out).stays;
    take = λ r bytes. (calm_taken r bytes).stays;
    vote = λ r out. (calm_voted r out).stays;
    carry_out = λ r. (calm_carried_out M r).stays;
    mark = λ r scratch out. (calm_marked M r scratch out).stays;
    suspect = λ r out. (calm_suspected r out).stays;
    open_view = λ r out. (calm_opened r out).stays;
    world = refused_changes_nothing M;
  }

-- What an entry leaves at the places is what the world of a run has after it.
use Rattle.std.specs.Prelude.{◌==◌, slice_get, slice_set}
use Rattle.std.proofs.Common.{◌≡◌, ◌≢◌, ℕ, ◌<◌, true, false, List, Option, None, Some, refl, sym, ap, ◌∙◌, subst, arith}
use Rattle.std.proofs.lemmas.Bool.{cond_both, cond-true, eq-eqb, eqb-true, eqb-false}
use Rattle.std.proofs.lemmas.List.{length-set}
use Rattle.std.proofs.lemmas.Option.{slice_get_within}
use Rattle.counter.specs.Laws as counting
use Rattle.counter.specs.Statements.{Stated}
use Rattle.protocol.specs.Meanings.{Meaning}
use Rattle.protocol.specs.Replicas.{Replica}
use Rattle.protocol.specs.Runs as runs
use Rattle.protocol.specs.Runs.{Member, World, Came, Event, at_seat, came_to, counted, happened, played}
use Rattle.cluster.specs.Entries.{Lent, call_of, seat_of, asked_for, called, acted_at, acted, added_at, added}
use Rattle.cluster.specs.Places.{Place, Bare, others_of, AsInWorld, Holds}
use Rattle.cluster.specs.Places.Place.{Held, Alone}
use Rattle.cluster.specs.declared.entries.Call.{Call}
use Rattle.cluster.specs.declared.entries.Call.TheVariants.{Ask, Take, Vote, CarryOut, Mark, Suspect, Open}
use Rattle.cluster.specs.declared.entries.Entry.{Entry}
use Rattle.cluster.specs.declared.entries.Entry.TheVariants.{At, Elsewhere}
use Rattle.cluster.proofs.Places.{get_set_same, get_set_other, set_same, held_stays, alone_stays}

module _ {St : Type 0} (n : ℕ) (rule : Stated → List ℕ) where
  -- one seat of the world changes, and its place in the same way
  abbrev Seat : World St → List (Place St) → ℕ → Type 0
  Seat w places seat = AsInWorld n rule seat (w.members seat) (w.others seat) (slice_get places seat)

  set_one : (places : List (Place St)) (v w : World St) (seat : ℕ) (p q : Place St) → Holds n rule places v → slice_get places seat ≡ Some p
      → AsInWorld n rule seat (w.members seat) (w.others seat) (Some q)
      → ((s : ℕ) → (s ≢ seat) → (w.members s ≡ v.members s) × (w.others s ≡ v.others s))
      → Holds n rule (slice_set places seat q) w
  set_one places v w seat p q H here tied apart = record {
    many = length-set places seat q ∙ H.many;
    each = λ s inside.
        cond_both (s == seat) true false (λ same. Seat w (slice_set places seat q) s)
        (λ same.
        let e : s ≡ seat = eqb-true s seat same in
        subst (λ t. Seat w (slice_set places seat q) t) (sym e)
        (subst (AsInWorld n rule seat (w.members seat) (w.others seat)) (sym (get_set_same places seat p q here)) tied))
        (λ other.
        let a : s ≢ seat = eqb-false s seat other in
        let k = apart s a in
        subst (AsInWorld n rule s (w.members s) (w.others s)) (sym (get_set_other places seat s q a))
        (subst (λ m. AsInWorld n rule s m (w.others s) (slice_get places s)) (sym k.0)
        (subst (λ values. AsInWorld n rule s (v.members s) values (slice_get places s)) (sym k.1) (H.each s inside))));
  }

at_same : {A : Type 0} (seat : ℕ) (x : A) (f : ℕ → A) → at_seat seat x f seat ≡ x
at_same seat x f = cond-true (seat == seat) x (f seat) (eq-eqb seat seat refl)

at_other : {A : Type 0} (seat s : ℕ) (x : A) (f : ℕ → A) → (s ≢ seat) → at_seat seat x f s ≡ f s
at_other seat s x f apart = cond_both (s == seat) x (f s) (λ y. y ≡ f s) (λ same. absurd (apart (eqb-true s seat same))) (λ other. refl)

module _ {St : Type 0} (M : Meaning St) where
  -- a call leaves the replica of the world's call
  same_replica : (m : Member St) (call : Call) (lent : Lent) → (called M m.replica call lent).1 ≡ (runs.called M m (call_of call lent)).member.replica
  same_replica m (Ask request) lent = refl
  same_replica m (Take bytes) lent = refl
  same_replica m Vote lent = refl
  same_replica m CarryOut lent = refl
  same_replica m Mark lent = refl
  same_replica m Suspect lent = refl
  same_replica m Open lent = refl

  module _ (n : ℕ) (rule : Stated → List ℕ) (places : List (Place St)) (w : World St) (H : Holds n rule places w) where
    inside : (seat : ℕ) (p : Place St) → slice_get places seat ≡ Some p → seat < n
    inside seat p e = omega (arith, slice_get_within places seat p e, H.many)

    pub seen_at : (seat : ℕ) (p : Place St) → slice_get places seat ≡ Some p → AsInWorld n rule seat (w.members seat) (w.others seat) (Some p)
    seen_at seat p e = subst (AsInWorld n rule seat (w.members seat) (w.others seat)) e (H.each seat (inside seat p e))

    call_kept : (seat : ℕ) (r : Replica St) (call : Call) (lent : Lent) → slice_get places seat ≡ Some (Held r)
        → Holds n rule (slice_set places seat (Held (called M r call lent).1)) (happened M rule w (Event.At seat (call_of call lent)))
    call_kept seat r call lent e =
        let c : Came St = runs.called M (w.members seat) (call_of call lent) in
        let same : r ≡ (w.members seat).replica = seen_at seat (Held r) e in
        set_one n rule places w (came_to w seat c) seat (Held r) (Held (called M r call lent).1) H e
        (subst (λ x. (called M x call lent).1 ≡ ((came_to w seat c).members seat).replica) (sym same)
        (same_replica (w.members seat) call lent ∙ ap (λ m. m.replica) (sym (at_same seat c.member w.members))))
        (λ s apart. (at_other seat s c.member w.members apart, refl))

    certificate_kept : (seat : ℕ) (c : Bare) (call : counting.Call) → slice_get places seat ≡ Some (Alone c)
        → Holds n rule (slice_set places seat (Alone (record c { values = (counting.called c.rule c.seat c.values call).1 }))) (happened M rule w (Event.Elsewhere seat call))
    certificate_kept seat c call e =
        let same : c ≡ record { size = n; seat = seat; rule = rule; values = w.others seat } = seen_at seat (Alone c) e in
        let after : List ℕ = (counting.called rule seat (w.others seat) call).1 in
        set_one n rule places w (counted rule w seat call) seat (Alone c) (Alone (record c { values = (counting.called c.rule c.seat c.values call).1 })) H e
        (subst (λ (x : Bare). record x { values = (counting.called x.rule x.seat x.values call).1 } ≡ record { size = n; seat = seat; rule = rule; values = (counted rule w seat call).others seat }) (sym same)
        (ap (λ values. record { size = n; seat = seat; rule = rule; values = values }) (sym (at_same seat after w.others))))
        (λ s apart. (refl, at_other seat s after w.others apart))

    -- where the entry asks for something else, all stays
    all_kept : (seat : ℕ) (p : Place St) → slice_get places seat ≡ Some p → Holds n rule (slice_set places seat p) w
    all_kept seat p e = subst (λ ps. Holds n rule ps w) (sym (set_same places seat p e)) H

    kept_at : (place : Option (Place St)) (entry : Entry) (lent : Lent) → slice_get places (seat_of entry) ≡ place
        → Holds n rule (acted_at M places place entry lent).1 (played M rule w (added_at place entry lent))
    kept_at None entry lent e = H
    kept_at (Some (Held r)) (At seat call) lent e = call_kept seat r call lent e
    kept_at (Some (Held r)) (Elsewhere seat kind number new message) lent e = all_kept seat (Held r) e
    kept_at (Some (Alone c)) (At seat call) lent e = all_kept seat (Alone c) e
    kept_at (Some (Alone c)) (Elsewhere seat kind number new message) lent e = certificate_kept seat c (asked_for kind number new message.now) e

    pub acted_keeps : (entry : Entry) (lent : Lent) → Holds n rule (acted M places entry lent).1 (played M rule w (added places entry lent))
    acted_keeps entry lent = kept_at (slice_get places (seat_of entry)) entry lent refl

  -- the seats in other hands stay those
  others_at : (places : List (Place St)) (place : Option (Place St)) (entry : Entry) (lent : Lent) → slice_get places (seat_of entry) ≡ place
      → others_of (acted_at M places place entry lent).1 ≡ others_of places
  others_at places None entry lent e = refl
  others_at places (Some (Held r)) (At seat call) lent e = held_stays 0 places seat r (called M r call lent).1 e
  others_at places (Some (Held r)) (Elsewhere seat kind number new message) lent e = held_stays 0 places seat r r e
  others_at places (Some (Alone c)) (At seat call) lent e = alone_stays 0 places seat c c e
  others_at places (Some (Alone c)) (Elsewhere seat kind number new message) lent e =
      alone_stays 0 places seat c (record c { values = (counting.called c.rule c.seat c.values (asked_for kind number new message.now)).1 }) e

  pub acted_others : (places : List (Place St)) (entry : Entry) (lent : Lent) → others_of (acted M places entry lent).1 ≡ others_of places
  acted_others places entry lent = others_at places (slice_get places (seat_of entry)) entry lent refl

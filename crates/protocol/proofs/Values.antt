-- How the values of a seat's counters and the log of statements go together: each call keeps the log one that counters
-- keep to, and the values those that the log shows.
use Rattle.std.specs.Prelude.{nat_lt, slice_index, slice_set}
use Rattle.std.proofs.lemmas.Grind.{common_steps}
use Rattle.std.proofs.lemmas.Bool.{ltb-true, leb-true, and_parts}
use Rattle.std.proofs.lemmas.List.{length-set, get_or-set_same, get_or-set_other, set-set, set-get_or}
use Rattle.std.proofs.Common.{◌≡◌, ℕ, ◌<◌, ◌⊎◌, true, List, [], ◌∷◌, ◌++◌, length, map, set, Ok, Err, Result, inl, inr, refl, sym, ◌∙◌, ap, subst, arith}
use Rattle.terms.specs.Pairs.{paired}
use Rattle.terms.specs.Quorums.{leader_of}
use Rattle.terms.specs.declared.refusals.Refusal.{Refusal}
use Rattle.counter.specs.Certificates.{counters, fresh_values, allows, certificate_for}
use Rattle.counter.specs.Laws.{granted}
use Rattle.counter.specs.Laws as counting
use Rattle.counter.specs.Statements.{Stated}
use Rattle.counter.specs.declared.kinds.Kind.{Kind}
use Rattle.counter.specs.declared.kinds.Kind.TheVariants.{Continuing, Independent}
use Rattle.parts.specs.Messages.{Prepare}
use Rattle.parts.specs.Statements.{order_counter, view_counter, prepare_says}
use Rattle.message.specs.Messages.{NewView}
use Rattle.message.specs.Statements.{new_view_says}
use Rattle.protocol.specs.Open.{rise, value_behind, opening_says}
use Rattle.protocol.specs.Runs.{put_on}
use Rattle.protocol.specs.Sets.{◌∈◌}
use Rattle.protocol.proofs.Counters.{value_next}
use Rattle.protocol.proofs.History.{value_of, Legal}
use Rattle.protocol.proofs.Lists.{in_left, in_either, in_map, to_map}

-- the values of a seat's counters are those that a log shows
abbrev pub Matches : List Stated → ℕ → List ℕ → Type 0
Matches log seat values = (length values ≡ counters) × ((number : ℕ) → value_of log seat number ≡ slice_index values number)

pub matches_fresh : (seat : ℕ) → Matches [] seat fresh_values
matches_fresh seat = (refl, λ number. grind (arith, common_steps))

-- statements of other seats leave the values of a seat
value_put_others : (cs log : List Stated) (seat number : ℕ) → ((x : Stated) → x ∈ cs → x.seat ≡ seat → ⊥) → value_of (put_on cs log) seat number ≡ value_of log seat number
value_put_others [] log seat number others = refl
value_put_others (c ∷ cs) log seat number others =
    value_put_others cs (c ∷ log) seat number (λ x m. others x (inr m))
    ∙ elim (value_next c log seat number) [ inl set ↦ absurd (others c (inl refl) set.0) | inr stays ↦ stays.1 ]

pub matches_others : (cs log : List Stated) (seat : ℕ) (values : List ℕ) → ((x : Stated) → x ∈ cs → x.seat ≡ seat → ⊥) → Matches log seat values
    → Matches (put_on cs log) seat values
matches_others cs log seat values others m = (m.0, λ number. value_put_others cs log seat number others ∙ m.1 number)

-- a certificate sets one value
pub matches_one : (x : Stated) (log : List Stated) (seat : ℕ) (values : List ℕ) → x.seat ≡ seat → x.number < counters → Matches log seat values
    → Matches (x ∷ log) seat (slice_set values x.number x.new)
matches_one x log seat values own inside m = (
  length-set values x.number x.new ∙ m.0,
  λ number. elim (value_next x log seat number) [
    | inl set ↦ set.2 ∙ sym (subst (λ k. slice_index (slice_set values x.number x.new) k ≡ x.new) set.1 (get_or-set_same values x.number x.new 0 (omega (arith, m.0))))
    | inr stays ↦ stays.1 ∙ m.1 number ∙ sym (get_or-set_other values x.number number x.new 0 (λ e. stays.0 (own, sym e)))
  ],
)

-- what the log shows of the counter of a statement
shown_at : (x : Stated) (log : List Stated) (seat : ℕ) (values : List ℕ) → Matches log seat values → x.seat ≡ seat → value_of log x.seat x.number ≡ slice_index values x.number
shown_at x log seat values m own = ap (λ s. value_of log s x.number) own ∙ m.1 x.number

pub legal_independent : (x : Stated) (log : List Stated) (seat : ℕ) (values : List ℕ) → Legal log → Matches log seat values → x.kind ≡ 2 → x.seat ≡ seat → x.old ≡ 0
    → allows Independent (slice_index values x.number) x.new ≡ true → Legal (x ∷ log)
legal_independent x log seat values l m kind own old test =
    (inr (kind, old, omega (arith, shown_at x log seat values m own, ltb-true _ _ test)), l)

pub legal_continuing : (x : Stated) (log : List Stated) (seat : ℕ) (values : List ℕ) → Legal log → Matches log seat values → x.kind ≡ 1 → x.seat ≡ seat
    → x.old ≡ slice_index values x.number → allows Continuing (slice_index values x.number) x.new ≡ true → Legal (x ∷ log)
legal_continuing x log seat values l m kind own old test =
    let shown = shown_at x log seat values m own in
    (inl (kind, old ∙ sym shown, omega (arith, shown, leb-true _ _ test)), l)

put_on_append : (xs ys log : List Stated) → put_on (xs ++ ys) log ≡ put_on ys (put_on xs log)
put_on_append [] ys log = refl
put_on_append (x ∷ xs) ys log = put_on_append xs ys (x ∷ log)

-- PREPAREs of one leader whose values rise, one after the other
module _ (n seat : ℕ) where
  prepares_legal : (ps : List Prepare) (log : List Stated) (values : List ℕ) (present : ℕ)
      → ((p : Prepare) → p ∈ ps → leader_of n p.view ≡ seat) → Legal log → Matches log seat values → slice_index values order_counter ≡ present
      → rise present ps ≡ true → Legal (put_on (map (prepare_says n) ps) log)
  prepares_legal [] log values present led l m e up = l
  prepares_legal (p ∷ ps) log values present led l m e up =
      let tests = and_parts (nat_lt present (paired p.view p.order)) (rise (paired p.view p.order) ps) up in
      let x : Stated = prepare_says n p in
      prepares_legal ps (x ∷ log) (slice_set values order_counter x.new) x.new (λ q k. led q (inr k))
      (legal_independent x log seat values l m refl (led p (inl refl)) refl (ap (λ k. nat_lt k x.new) e ∙ tests.0))
      (matches_one x log seat values (led p (inl refl)) (omega arith) m)
      (get_or-set_same values order_counter x.new 0 (omega (arith, m.0)))
      tests.1

  prepares_match : (ps : List Prepare) (log : List Stated) (values : List ℕ) (present : ℕ)
      → ((p : Prepare) → p ∈ ps → leader_of n p.view ≡ seat) → Matches log seat values → slice_index values order_counter ≡ present
      → Matches (put_on (map (prepare_says n) ps) log) seat (slice_set values order_counter (value_behind present ps))
  prepares_match [] log values present led m e =
      subst (Matches log seat) (sym (set-get_or values order_counter 0) ∙ ap (set values order_counter) e) m
  prepares_match (p ∷ ps) log values present led m e =
      let x : Stated = prepare_says n p in
      subst (Matches (put_on (map (prepare_says n) ps) (x ∷ log)) seat) (set-set values order_counter x.new (value_behind x.new ps))
      (prepares_match ps (x ∷ log) (slice_set values order_counter x.new) x.new (λ q k. led q (inr k))
      (matches_one x log seat values (led p (inl refl)) (omega arith) m)
      (get_or-set_same values order_counter x.new 0 (omega (arith, m.0))))

-- an opening by the leader of the view
module _ (n : ℕ) (w : NewView) (seat : ℕ) (log : List Stated) (values : List ℕ) (own : leader_of n w.view ≡ seat)
    (of_view : (p : Prepare) → p ∈ w.prepares → p.view ≡ w.view) (m : Matches log seat values) where
  led : (p : Prepare) → p ∈ w.prepares → leader_of n p.view ≡ seat
  led p k = ap (leader_of n) (of_view p k) ∙ own

  -- the log and the values before the NEW-VIEW is certified
  abbrev log_before : List Stated
  log_before = put_on (map (prepare_says n) w.prepares) log

  abbrev values_before : List ℕ
  values_before = slice_set values order_counter (value_behind (slice_index values order_counter) w.prepares)

  certified_last : put_on (opening_says n w) log ≡ new_view_says n w ∷ log_before
  certified_last = put_on_append (map (prepare_says n) w.prepares) (new_view_says n w ∷ []) log

  match_before : Matches log_before seat values_before
  match_before = prepares_match n seat w.prepares log values (slice_index values order_counter) led m refl

  pub opening_legal : Legal log → rise (slice_index values order_counter) w.prepares ≡ true → nat_lt (slice_index values view_counter) w.view ≡ true
      → Legal (put_on (opening_says n w) log)
  opening_legal l up new =
      let legal_before = prepares_legal n seat w.prepares log values (slice_index values order_counter) led l m refl up in
      let stays = get_or-set_other values order_counter view_counter (value_behind (slice_index values order_counter) w.prepares) 0 (omega arith) in
      subst Legal (sym certified_last) (legal_independent (new_view_says n w) log_before seat values_before legal_before match_before refl own refl (ap (λ k. nat_lt k w.view) stays ∙ new))

  pub opening_matches : Matches (put_on (opening_says n w) log) seat (slice_set (slice_set values order_counter (value_behind (slice_index values order_counter) w.prepares)) view_counter w.view)
  opening_matches =
      subst (λ l. Matches l seat (slice_set values_before view_counter w.view)) (sym certified_last)
      (matches_one (new_view_says n w) log_before seat values_before own (omega arith) match_before)

pub in_opening : (n : ℕ) (w : NewView) (x : Stated) → x ∈ opening_says n w → ((p : Prepare) × (p ∈ w.prepares) × (x ≡ prepare_says n p)) ⊎ (x ≡ new_view_says n w)
in_opening n w x m = elim (in_either x (map (prepare_says n) w.prepares) (new_view_says n w ∷ []) m) [
  | inl k ↦ inl (in_map (prepare_says n) x w.prepares k)
  | inr k ↦ elim k [ inl e ↦ inr e | inr none ↦ absurd none ]
]

pub opening_has : (n : ℕ) (w : NewView) (p : Prepare) → p ∈ w.prepares → prepare_says n p ∈ opening_says n w
opening_has n w p k = in_left (prepare_says n p) (map (prepare_says n) w.prepares) (new_view_says n w ∷ []) (to_map (prepare_says n) p w.prepares k)

pub value_behind_last : (present : ℕ) (ps : List Prepare) → (value_behind present ps ≡ present) ⊎ ((p : Prepare) × (p ∈ ps) × (value_behind present ps ≡ paired p.view p.order))
value_behind_last present [] = inl refl
value_behind_last present (p ∷ ps) = elim (value_behind_last (paired p.view p.order) ps) [
  | inl e ↦ inr (p, inl refl, e)
  | inr r ↦ inr (r.0, inr r.1, r.2)
]

-- a counter call at a seat
module _ (rule : Stated → List ℕ) (seat : ℕ) (values : List ℕ) (c : counting.Call) where
  abbrev asked_for : Stated
  asked_for = certificate_for seat values c.kind c.number c.new c.message

  -- what holds of a refusal, and of a certificate that is allowed, holds of the call
  by_answer : (P : Result (List ℕ) Refusal × List ℕ → Type 0)
      → ((refusal : Refusal) → P (Err refusal, values))
      → (c.number < counters → allows c.kind (slice_index values c.number) c.new ≡ true → P (Ok (rule asked_for), slice_set values c.number c.new))
      → P (counting.called rule seat values c)
  by_answer P refused given = grind arith

  legal_call : (kind : Kind) (log : List Stated) → Legal log → Matches log seat values → allows kind (slice_index values c.number) c.new ≡ true
      → Legal (certificate_for seat values kind c.number c.new c.message ∷ log)
  legal_call Continuing log l m test = legal_continuing (certificate_for seat values Continuing c.number c.new c.message) log seat values l m refl refl refl test
  legal_call Independent log l m test = legal_independent (certificate_for seat values Independent c.number c.new c.message) log seat values l m refl refl refl test

  pub counted_legal : (log : List Stated) → Legal log → Matches log seat values → Legal (put_on (granted (counting.called rule seat values c).0 asked_for) log)
  counted_legal log l m =
      by_answer (λ r. Legal (put_on (granted r.0 asked_for) log))
      (λ refusal. l)
      (λ inside test. legal_call c.kind log l m test)

  pub counted_matches : (log : List Stated) → Matches log seat values
      → Matches (put_on (granted (counting.called rule seat values c).0 asked_for) log) seat (counting.called rule seat values c).1
  counted_matches log m =
      by_answer (λ r. Matches (put_on (granted r.0 asked_for) log) seat r.1)
      (λ refusal. m)
      (λ inside test. matches_one asked_for log seat values refl inside m)

  pub counted_by : (x : Stated) → x ∈ granted (counting.called rule seat values c).0 asked_for → x.seat ≡ seat
  counted_by x =
      by_answer (λ r. x ∈ granted r.0 asked_for → x.seat ≡ seat)
      (λ refusal none. absurd none)
      (λ inside test given. elim given [ inl e ↦ ap (λ (y : Stated). y.seat) e | inr none ↦ absurd none ])

-- Proposals whose orders ascend above a low mark.
use Rattle.std.proofs.Common.{◌≡◌, ℕ, ◌+◌, ◌-◌, slice_get, Option, Some, None, ◌<◌, ◌≤◌, ◌==◌, Bool, true, cond, List, [], ◌∷◌, ◌++◌, length, map, filter, nat_le, nat_lt, refl, ap, ◌∙◌, sym, arith}
use native.Mathlib.Numerals.{unary_clauses}
use Rattle.std.proofs.lemmas.Bool.{cond_both, and_parts, leb-true, lt-ltb, ltb-true}
use Rattle.std.proofs.lemmas.Bool.Decides.{nat_tests}
use Rattle.terms.specs.Numbers.{window}
use Rattle.parts.specs.Messages.{Prepare}
use Rattle.drafts.specs.Says.{kept_prepare}
use Rattle.drafts.specs.declared.prepare.PrepareDraft.{PrepareDraft}
use Rattle.drafts.specs.declared.tagged.Tagged.{Tagged}
use Rattle.protocol.specs.Changes.{ascend, last_order}
use Rattle.protocol.specs.Replicas.{Entry}
use Rattle.protocol.specs.Standing.{proposals, vote_added, with_vote, with_vote_of, without_votes}
use Rattle.holdings.proofs.Lists.{of_chosen}
use Rattle.holdings.specs.Kept.{kept_entry, kept_entries}
use Rattle.holdings.specs.Recorded.{ascends}
use Rattle.holdings.specs.declared.entries.Entry.{Entry as Held}

-- a number that is not below the bound, and numbers that ascend behind it
ascend_step : (a s : ℕ) (ss : List ℕ) → a ≤ s → ascend (s + 1) ss ≡ true → ascend a (s ∷ ss) ≡ true
ascend_step a s ss le up = grind (arith, nat_tests, up)

-- proposals that ascend are at most as many as there are orders
pub at_most : (low : ℕ) (es : List Entry) → ascends low (proposals es) ≡ true → length es + low ≤ last_order low (proposals es)
at_most low [] up = omega arith
at_most low (e ∷ es) up =
    let parts = and_parts (nat_le (low + 1) e.proposal.order) _ up in
    omega (arith, leb-true _ _ parts.0, at_most e.proposal.order es parts.1)

length_kept : (items : List Held) → length (kept_entries items) ≡ length items
length_kept [] = refl
length_kept (x ∷ items) = omega (arith, length_kept items)

-- so in a window there is room for one more
pub room_for_one : (low : ℕ) (items : List Held) → ascends low (proposals (kept_entries items)) ≡ true → last_order low (proposals (kept_entries items)) + 1 ≤ low + window → length items < window
room_for_one low items up inside = omega (arith, at_most low (kept_entries items) up, length_kept items)

-- one more behind the last one ascends, too
pub ascends_next : (low : ℕ) (es : List Entry) (e : Entry) → ascends low (proposals es) ≡ true → e.proposal.order ≡ last_order low (proposals es) + 1 → ascends low (proposals (es ++ e ∷ [])) ≡ true
ascends_next low [] e up next = ascend_step (low + 1) e.proposal.order [] (omega (arith, next)) refl
ascends_next low (x ∷ es) e up next =
    let parts = and_parts (nat_le (low + 1) x.proposal.order) _ up in
    ascend_step (low + 1) x.proposal.order _ (leb-true _ _ parts.0) (ascends_next x.proposal.order es e parts.1 next)

pub kept_more : (items : List Held) (e : Held) → kept_entries (items ++ e ∷ []) ≡ kept_entries items ++ kept_entry e ∷ []
kept_more [] e = refl
kept_more (x ∷ items) e = ap (λ (rest : List Entry). kept_entry x ∷ rest) (kept_more items e)

-- a vote changes no proposal
pub proposals_stay : (seat order : ℕ) (es : List Entry) → proposals (vote_added seat order es) ≡ proposals es
proposals_stay seat order [] = refl
proposals_stay seat order (e ∷ es) =
    let voted : Entry = record { proposal = e.proposal; votes = with_vote seat e.votes } in
    let same = cond_both (e.proposal.order == order) voted e (λ x. x.proposal ≡ e.proposal) (λ holds. refl) (λ fails. refl) in
    λ i. same i ∷ proposals_stay seat order es i

-- behind an order that is passed, what ascends stays whole
above_from : (order low : ℕ) (es : List Entry) → order ≤ low → ascends low (proposals es) ≡ true → filter (λ e. nat_lt order e.proposal.order) es ≡ es
above_from order low [] le up = refl
above_from order low (e ∷ es) le up =
    let parts = and_parts (nat_le (low + 1) e.proposal.order) _ up in
    let far = leb-true _ _ parts.0 in
    let later = above_from order e.proposal.order es (omega (arith, far)) parts.1 in
    let rest = filter (λ (x : Entry). nat_lt order x.proposal.order) es in
    ap (λ (b : Bool). cond b (e ∷ rest) rest) (lt-ltb order e.proposal.order (omega (arith, far))) ∙ ap (λ (xs : List Entry). e ∷ xs) later

-- an entry above an order, and those behind it
above_first : (order : ℕ) (e : Entry) (es : List Entry) → order < e.proposal.order → ascends e.proposal.order (proposals es) ≡ true → ascends order (proposals (e ∷ filter (λ x. nat_lt order x.proposal.order) es)) ≡ true
above_first order e es above up =
    let whole = above_from order e.proposal.order es (omega (arith, above)) up in
    ascend_step (order + 1) e.proposal.order _ (omega (arith, above)) (ap (λ (xs : List Entry). ascends e.proposal.order (proposals xs)) whole ∙ up)

-- those above an order ascend above it
pub ascends_above : (order low : ℕ) (es : List Entry) → ascends low (proposals es) ≡ true → ascends order (proposals (filter (λ e. nat_lt order e.proposal.order) es)) ≡ true
ascends_above order low [] up = refl
ascends_above order low (e ∷ es) up =
    let parts = and_parts (nat_le (low + 1) e.proposal.order) _ up in
    let rest = filter (λ (x : Entry). nat_lt order x.proposal.order) es in
    cond_both (nat_lt order e.proposal.order) (e ∷ rest) rest (λ xs. ascends order (proposals xs) ≡ true)
    (λ holds. above_first order e es (ltb-true order e.proposal.order holds) parts.1)
    (λ fails. ascends_above order e.proposal.order es parts.1)

-- the order of the last entry
pub last_is : (low : ℕ) (items : List Held) (e : Held) → slice_get items (length items - 1) ≡ Some e → last_order low (proposals (kept_entries items)) ≡ e.proposal.draft.order.0
last_is low [] e last = cc
last_is low (x ∷ []) e last = ap (λ (found : Option Held). elim found [ None ↦ 0 | Some y ↦ y.proposal.draft.order.0 ]) last
last_is low (x ∷ y ∷ items) e last = last_is x.proposal.draft.order.0 (y ∷ items) e (simp unary_clauses (simp unary_clauses at last))

-- proposals without votes, and with one vote, are the proposals
pub unvoted_proposals : (ps : List Prepare) → proposals (map without_votes ps) ≡ ps
unvoted_proposals [] = refl
unvoted_proposals (p ∷ ps) = ap (λ (rest : List Prepare). p ∷ rest) (unvoted_proposals ps)

voted_proposals : (seat : ℕ) (ps : List Prepare) → proposals (map (with_vote_of seat) ps) ≡ ps
voted_proposals seat [] = refl
voted_proposals seat (p ∷ ps) = ap (λ (rest : List Prepare). p ∷ rest) (voted_proposals seat ps)

-- those above an order, before they get a vote and after
filter_voted : (seat low : ℕ) (ps : List Prepare) → map (with_vote_of seat) (filter (λ p. nat_lt low p.order) ps) ≡ filter (λ e. nat_lt low e.proposal.order) (map (with_vote_of seat) ps)
filter_voted seat low [] = refl
filter_voted seat low (p ∷ ps) =
    let kept = filter (λ (q : Prepare). nat_lt low q.order) ps in
    let b = nat_lt low p.order in
    of_chosen (map (with_vote_of seat)) b (p ∷ kept) kept ∙ (λ i. cond b (with_vote_of seat p ∷ filter_voted seat low ps i) (filter_voted seat low ps i))

pub supported_ascend : (seat low : ℕ) (ps : List Prepare) → ascends 0 ps ≡ true → ascends low (proposals (map (with_vote_of seat) (filter (λ p. nat_lt low p.order) ps))) ≡ true
supported_ascend seat low ps up =
    ap (λ (es : List Entry). ascends low (proposals es)) (filter_voted seat low ps)
    ∙ ascends_above low 0 (map (with_vote_of seat) ps) (ap (λ (qs : List Prepare). ascends 0 qs) (voted_proposals seat ps) ∙ up)

-- so with proposals as they are kept
pub supported_kept : (seat low : ℕ) (list shown : List (Tagged PrepareDraft)) (all above : List Held) → shown ≡ list → kept_entries all ≡ map (with_vote_of seat) (map kept_prepare shown) → kept_entries above ≡ filter (λ e. nat_lt low e.proposal.order) (kept_entries all) → kept_entries above ≡ map (with_vote_of seat) (filter (λ p. nat_lt low p.order) (map kept_prepare list))
supported_kept seat low list shown all above is voted passed =
    passed
    ∙ ap (filter (λ (e : Entry). nat_lt low e.proposal.order)) (voted ∙ ap (λ (ts : List (Tagged PrepareDraft)). map (with_vote_of seat) (map kept_prepare ts)) is)
    ∙ sym (filter_voted seat low (map kept_prepare list))

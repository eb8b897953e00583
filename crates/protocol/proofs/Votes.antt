-- The votes that are held of an entry: one place for each seat.
use Rattle.std.proofs.Common.{◌≡◌, ℕ, zero, suc, ◌+◌, ◌-◌, ◌≤◌, ◌⊎◌, Bool, true, false, List, [], ◌∷◌, length, replicate, count_by, slice_index_or, filter, if◌then◌else◌, refl, sym, ◌∙◌, ap, inl, inr, arith}
use Rattle.std.proofs.lemmas.Bool.{false≢true, cases_eq}
use Rattle.std.proofs.lemmas.List.{get_or-set_other}
use Rattle.std.proofs.lemmas.List.Sums.{length-filter}
use Rattle.terms.specs.Numbers.{largest_group}
use Rattle.protocol.specs.Replicas.{no_votes}
use Rattle.protocol.specs.Sets.{◌∈◌, Distinct}
use Rattle.protocol.specs.Standing.{with_vote}

-- the places, counted from a number on, at which a vote is held
abbrev pub seats_with : ℕ → List Bool → List ℕ
seats_with k [] = []
seats_with k (vote ∷ votes) = if vote then k ∷ seats_with (k + 1) votes else seats_with (k + 1) votes

as_many : (k : ℕ) (votes : List Bool) → length (seats_with k votes) ≡ length (filter (λ vote. vote) votes)
as_many k [] = refl
as_many k (true ∷ votes) = ap suc (as_many (k + 1) votes)
as_many k (false ∷ votes) = as_many (k + 1) votes

pub seats_with_count : (k : ℕ) (votes : List Bool) → length (seats_with k votes) ≡ count_by (λ vote. vote) votes
seats_with_count k votes = as_many k votes ∙ length-filter (λ vote. vote) votes

-- a place behind the first one
behind : (k s : ℕ) (vote : Bool) (votes : List Bool) → k + 1 ≤ s → slice_index_or votes (s - (k + 1)) false ≡ true → slice_index_or (vote ∷ votes) (s - k) false ≡ true
behind k s vote votes above held = let next : s - k ≡ suc (s - (k + 1)) = omega arith in rw next held

-- each is a place of a vote that is held
pub seats_with_told : (k : ℕ) (votes : List Bool) (s : ℕ) → s ∈ seats_with k votes → (k ≤ s) × (slice_index_or votes (s - k) false ≡ true)
seats_with_told k [] s i = absurd i
seats_with_told k (true ∷ votes) s (inl e) = let first : s - k ≡ 0 = omega arith in (omega arith, rw first refl)
seats_with_told k (true ∷ votes) s (inr i) =
    let (above, held) = seats_with_told (k + 1) votes s i in
    (omega arith, behind k s true votes above held)
seats_with_told k (false ∷ votes) s i =
    let (above, held) = seats_with_told (k + 1) votes s i in
    (omega arith, behind k s false votes above held)

pub seats_with_distinct : (k : ℕ) (votes : List Bool) → Distinct (seats_with k votes)
seats_with_distinct k [] = tt
seats_with_distinct k (true ∷ votes) = (λ i. absurd (omega (arith, seats_with_told (k + 1) votes k i)), seats_with_distinct (k + 1) votes)
seats_with_distinct k (false ∷ votes) = seats_with_distinct (k + 1) votes

pub with_vote_told : (s t : ℕ) (votes : List Bool) → slice_index_or (with_vote s votes) t false ≡ true → (t ≡ s) ⊎ (slice_index_or votes t false ≡ true)
with_vote_told s t votes held = elim (cases_eq t s) [
  | inl e ↦ inl e
  | inr other ↦ inr (sym (get_or-set_other votes s t true false other) ∙ held)
]

-- nobody's vote is held at first, so after one vote only that one is
none_stands : (n t : ℕ) → slice_index_or (replicate n false) t false ≡ false
none_stands zero t = refl
none_stands (suc n) zero = refl
none_stands (suc n) (suc t) = none_stands n t

pub no_votes_told : (t : ℕ) → slice_index_or no_votes t false ≡ true → ⊥
no_votes_told t held = false≢true (sym (none_stands largest_group t) ∙ held)

pub leader_vote_told : (s t : ℕ) → slice_index_or (with_vote s no_votes) t false ≡ true → t ≡ s
leader_vote_told s t held = elim (with_vote_told s t no_votes held) [ inl e ↦ e | inr none ↦ absurd (no_votes_told t none) ]

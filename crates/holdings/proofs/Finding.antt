-- Finding in a list of kept things is finding in what they are.
use Rattle.std.proofs.Common.{◌≡◌, ℕ, Bool, cond, List, [], ◌∷◌, map, length, find, nat_lt, Some, ◌==◌, refl, ap, ◌∙◌}
use Rattle.std.specs.Option.{option_map}
use Rattle.protocol.specs.Standing.{entry_at, note_of, vote_added, with_vote, proposals}
use Rattle.std.proofs.lemmas.List.{length-map}
use Rattle.arrayvec.specs.ArrayVec.{ArrayVec, with_items}
use Rattle.arrayvec.proofs.ArrayVecLemmas.{items-with_items}
use Rattle.parts.specs.Messages.{Prepare}
use Rattle.drafts.specs.Says.{kept_prepare}
use Rattle.holdings.proofs.Lists.{of_chosen}
use Rattle.holdings.specs.Kept.{kept_entry, kept_entries, kept_note, voted}
use Rattle.holdings.specs.declared.entries.Entry.{Entry}
use Rattle.holdings.specs.declared.noted.Noted.{Noted}

module _ {A B : Type 0} (f : A → B) (p : B → Bool) where
  pub find_mapped : (xs : List A) → option_map f (find (λ x. p (f x)) xs) ≡ find p (map f xs)
  find_mapped [] = refl
  find_mapped (x ∷ xs) =
      of_chosen (option_map f) (p (f x)) (Some x) (find (λ y. p (f y)) xs) ∙ (λ i. cond (p (f x)) (Some (f x)) (find_mapped xs i))

pub find_entry : (order : ℕ) (entries : List Entry) → option_map kept_entry (find (λ e. e.proposal.draft.order.0 == order) entries) ≡ entry_at order (kept_entries entries)
find_entry order entries = find_mapped kept_entry (λ e. e.proposal.order == order) entries

pub find_note : (view : ℕ) (notes : List Noted) → option_map kept_note (find (λ k. k.view.0 == view) notes) ≡ note_of view (map kept_note notes)
find_note view notes = find_mapped kept_note (λ k. k.view == view) notes

pub find_above : (order : ℕ) (entries : List Entry) → option_map kept_entry (find (λ e. nat_lt order e.proposal.draft.order.0) entries) ≡ find (λ e. nat_lt order e.proposal.order) (kept_entries entries)
find_above order entries = find_mapped kept_entry (λ e. nat_lt order e.proposal.order) entries

-- a vote that is added to what is kept
pub votes_kept : (seat order : ℕ) (entries : List Entry) → kept_entries (map (voted seat order) entries) ≡ vote_added seat order (kept_entries entries)
votes_kept seat order [] = refl
votes_kept seat order (e ∷ entries) =
    let more : Entry = record { proposal = e.proposal; votes = with_vote seat e.votes } in
    let b = e.proposal.draft.order.0 == order in
    let first = of_chosen kept_entry b more e in
    λ i. first i ∷ votes_kept seat order entries i

-- the proposals of what is kept
pub proposals_kept : (entries : List Entry) → map (λ e. kept_prepare e.proposal) entries ≡ proposals (kept_entries entries)
proposals_kept [] = refl
proposals_kept (e ∷ entries) = ap (λ (rest : List Prepare). kept_prepare e.proposal ∷ rest) (proposals_kept entries)

-- a vote that is written where the entries are
pub vote_written : (seat order : ℕ) (v : ArrayVec Entry) (new now : List Entry) → new ≡ map (voted seat order) now → now ≡ v.items → kept_entries (with_items v new).items ≡ vote_added seat order (kept_entries v.items)
vote_written seat order v new now added shown =
    let made : new ≡ map (voted seat order) v.items = added ∙ ap (map (voted seat order)) shown in
    ap kept_entries (items-with_items v new (ap length made ∙ length-map v.items (voted seat order)) ∙ made) ∙ votes_kept seat order v.items

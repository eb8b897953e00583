-- The CHECKPOINTs that are held, as they are kept and as they are said.
use Rattle.std.proofs.Common.{◌≡◌, ℕ, ◌+◌, ◌<◌, List, [], ◌∷◌, ◌++◌, length, take, map, filter, find, count_by, get_or, slice_set, Option, Some, None, refl, ap, ◌∙◌, sym}
use Rattle.std.specs.Option.{option_map}
use Rattle.std.proofs.lemmas.List.{map-set, map_more, length-map}
use Rattle.std.proofs.lemmas.List.Elements.{filter-append, filter_map-append}
use Rattle.std.proofs.lemmas.List.Sums.{length-filter}
use Rattle.parts.specs.Messages.{Checkpoint}
use Rattle.drafts.specs.Says.{kept_checkpoint}
use Rattle.drafts.specs.declared.checkpoint.CheckpointDraft.{CheckpointDraft}
use Rattle.drafts.specs.declared.tagged.Tagged.{Tagged}
use Rattle.protocol.specs.Changes.{agrees}
use Rattle.protocol.specs.Replicas.{Replica}
use Rattle.protocol.specs.Standing.{held, lowered, quorum, settled}
use Rattle.holdings.proofs.Finding.{find_mapped}
use Rattle.holdings.proofs.Lists.{held_mapped, filter_mapped, taken_twice}
use Rattle.holdings.specs.Claimed.{agreeing, settles, settlement, low_moved}

-- what is held in one place more
pub held_set : (places : List (Option (Tagged CheckpointDraft))) (seat : ℕ) (claim : Tagged CheckpointDraft) → map (option_map kept_checkpoint) (slice_set places seat (Some claim)) ≡ slice_set (map (option_map kept_checkpoint) places) seat (Some (kept_checkpoint claim))
held_set places seat claim = map-set (option_map kept_checkpoint) places seat (Some claim)

-- what agrees, counted as it is kept
pub agreeing_counted : (c : Checkpoint) (places : List (Option (Tagged CheckpointDraft))) → count_by (λ t. agrees c (kept_checkpoint t)) (held places) ≡ length (agreeing (held (map (option_map kept_checkpoint) places)) c)
agreeing_counted c places =
    let passed = filter (λ (t : Tagged CheckpointDraft). agrees c (kept_checkpoint t)) (held places) in
    sym (length-filter (λ (t : Tagged CheckpointDraft). agrees c (kept_checkpoint t)) (held places))
    ∙ sym (length-map passed kept_checkpoint)
    ∙ ap length (sym (filter_mapped kept_checkpoint (agrees c) (held places)))
    ∙ ap (λ (cs : List Checkpoint). length (filter (agrees c) cs)) (sym (held_mapped kept_checkpoint places))

-- the first to which low may move, found as it is kept
pub settling_found : (low count quorum : ℕ) (places : List (Option (Tagged CheckpointDraft))) → option_map kept_checkpoint (find (λ t. settles low count quorum (held (map (option_map kept_checkpoint) places)) (kept_checkpoint t)) (held places)) ≡ find (settles low count quorum (held (map (option_map kept_checkpoint) places))) (held (map (option_map kept_checkpoint) places))
settling_found low count quorum places =
    let test = settles low count quorum (held (map (option_map kept_checkpoint) places)) in
    find_mapped kept_checkpoint test (held places) ∙ ap (find test) (sym (held_mapped kept_checkpoint places))

-- what agrees, of one place more
agreeing_more : (c : Checkpoint) (places : List (Option Checkpoint)) (place : Option Checkpoint) → agreeing (held (places ++ place ∷ [])) c ≡ agreeing (held places) c ++ agreeing (held (place ∷ [])) c
agreeing_more c places place =
    ap (λ (cs : List Checkpoint). agreeing cs c) (filter_map-append (λ (x : Option Checkpoint). x) places (place ∷ []))
    ∙ filter-append (agrees c) (held places) (held (place ∷ []))

-- the places so far and the next one, as they are kept
places_more : (places : List (Option (Tagged CheckpointDraft))) (i : ℕ) (place : Option (Tagged CheckpointDraft)) → i < length places → place ≡ get_or places i place → map (option_map kept_checkpoint) (take (i + 1) places) ≡ map (option_map kept_checkpoint) (take i places) ++ option_map kept_checkpoint place ∷ []
places_more places i place less at = map_more (option_map kept_checkpoint) places i place less ∙ ap (λ (x : Option (Tagged CheckpointDraft)). map (option_map kept_checkpoint) (take i places) ++ option_map kept_checkpoint x ∷ []) (sym at)

-- the first so many that agree, of one place more
pub agreeing_next : (c : Checkpoint) (most i : ℕ) (places : List (Option (Tagged CheckpointDraft))) (place : Option (Tagged CheckpointDraft)) (first : List Checkpoint) → i < length places → place ≡ get_or places i place → first ≡ take most (agreeing (held (map (option_map kept_checkpoint) (take i places))) c) → take most (first ++ agreeing (held (option_map kept_checkpoint place ∷ [])) c) ≡ take most (agreeing (held (map (option_map kept_checkpoint) (take (i + 1) places))) c)
agreeing_next c most i places place first less at made =
    let so_far = map (option_map kept_checkpoint) (take i places) in
    let next = agreeing (held (option_map kept_checkpoint place ∷ [])) c in
    let more = ap (λ (ps : List (Option Checkpoint)). agreeing (held ps) c) (places_more places i place less at) ∙ agreeing_more c so_far (option_map kept_checkpoint place) in
    ap (λ (xs : List Checkpoint). take most (xs ++ next)) made ∙ taken_twice most (agreeing (held so_far) c) next ∙ ap (take most) (sym more)

-- *settled* moves low to where the CHECKPOINTs that are held move it
lowered_moved : {St : Type 0} (r : Replica St) (found : Option Checkpoint) → lowered r found ≡ low_moved r (option_map (λ c. (c.order, take (quorum r) (agreeing (held r.checkpoints) c))) found)
lowered_moved r None = refl
lowered_moved r (Some c) = refl

pub settled_moved : {St : Type 0} (r : Replica St) → settled r ≡ low_moved r (settlement r.low r.count (quorum r) (held r.checkpoints))
unfolding settled
settled_moved r = lowered_moved r (find (settles r.low r.count (quorum r) (held r.checkpoints)) (held r.checkpoints))

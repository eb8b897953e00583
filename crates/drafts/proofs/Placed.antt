-- What stands in places, of which some are empty.
use Rattle.std.proofs.Common.{◌≡◌, ℕ, zero, suc, ◌*◌, ◌≤◌, List, [], ◌∷◌, ◌++◌, Option, Some, None, length, count_by, take, is_some, IfSome, if◌then◌else◌, ◌+◌, refl, ap, arith, length-append}
use Rattle.std.specs.List.{flat_map, AllByRecursion}
use Rattle.std.proofs.lemmas.List.Recursion.{is_count_by}
use Rattle.terms.specs.Numbers.{longest_view_change}
use Rattle.xdr.specs.Layout.{int, counted}
use Rattle.message.specs.Encoding.{encode_view_change}
use Rattle.message.specs.Fits.{ViewChangeFits}
use Rattle.message.specs.Messages.{ViewChange}
use Rattle.message.proofs.Sizes.{message_sizes}
use Rattle.drafts.specs.Says.{placed, bytes_at}

one_place : {A : Type 0} (place : Option A) (places : List (Option A)) → length (placed (place ∷ places)) ≡ (if is_some place then 1 + length (placed places) else length (placed places))
one_place None places = refl
one_place (Some x) places = omega arith

-- as many as there are places that are not empty
pub placed_counted : {A : Type 0} (places : List (Option A)) → length (placed places) ≡ count_by is_some places
placed_counted places = is_count_by (λ ps. length (placed ps)) is_some refl one_place places

-- the bytes of the places are those of what stands in them
pub placed_bytes : {A : Type 0} (each : A → List ℕ) (places : List (Option A)) → flat_map (bytes_at each) places ≡ flat_map each (placed places)
placed_bytes each [] = refl
placed_bytes each (None ∷ places) = placed_bytes each places
placed_bytes each (Some x ∷ places) = ap (λ bytes. each x ++ bytes) (placed_bytes each places)

pub placed_counted_bytes : {A : Type 0} (each : A → List ℕ) (places : List (Option A)) → int (length (placed places)) ++ flat_map (bytes_at each) places ≡ counted each (placed places)
unfolding counted
placed_counted_bytes each places = ap (λ bytes. int (length (placed places)) ++ bytes) (placed_bytes each places)

-- the first places hold no more than all
pub placed_first : {A : Type 0} (i : ℕ) (places : List (Option A)) → length (placed (take i places)) ≤ length (placed places)
placed_first zero places = omega arith
placed_first (suc i) [] = omega arith
placed_first (suc i) (None ∷ places) = placed_first i places
placed_first (suc i) (Some x ∷ places) = omega (arith, placed_first i places)

-- a place with a VIEW-CHANGE within its limits, or an empty one
abbrev pub PlaceFits : Option ViewChange → Type 0
PlaceFits place = IfSome place ViewChangeFits

pub placed_fit : (places : List (Option ViewChange)) → AllByRecursion PlaceFits places → AllByRecursion ViewChangeFits (placed places)
placed_fit [] fit = tt
placed_fit (None ∷ places) fit = placed_fit places fit.1
placed_fit (Some c ∷ places) fit = (fit.0, placed_fit places fit.1)

-- and no more bytes than the longest
pub place_short : (place : Option ViewChange) → PlaceFits place → length (bytes_at encode_view_change place) ≤ longest_view_change
place_short None fit = omega arith
place_short (Some c) fit = message_sizes.no_longer_change c fit

-- so places have no more bytes than as many of the longest
pub placed_short : (places : List (Option ViewChange)) → AllByRecursion PlaceFits places → length (flat_map (bytes_at encode_view_change) places) ≤ longest_view_change * length (placed places)
placed_short [] fit = omega arith
placed_short (None ∷ places) fit = placed_short places fit.1
placed_short (Some c ∷ places) fit = omega (arith, length-append (encode_view_change c) (flat_map (bytes_at encode_view_change) places), place_short (Some c) fit.0, placed_short places fit.1)

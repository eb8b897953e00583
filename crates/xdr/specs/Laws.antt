-- What reading and writing owe one another.
use Rattle.std.specs.Prelude.{◌≡◌, ℕ, ◌^◌, ◌<◌, ◌≤◌, Bool, true, List, ◌++◌, length, Some, Option}
use Rattle.std.specs.Option.{option_map}
use Rattle.std.specs.List.{flat_map, AllByRecursion}
use Rattle.xdr.specs.Layout.{int, hyper, fixed, counted}
use Rattle.xdr.specs.Reading.{int_from, hyper_from, opaque_from, count_from, list_from, rows_from}

-- every element is a byte
abbrev pub Bytes : List ℕ → Type 0
Bytes bytes = AllByRecursion (λ b. b < 256) bytes

-- a writing of the values that fit, and the reading that undoes it
pub record Exact {X : Type 0} (fits : X → Type 0) (write : X → List ℕ) (read : List ℕ → Option (X × List ℕ)) : Type 0 where
  -- what is written reads back, whatever stands behind it
  pub back : (x : X) (rest : List ℕ) → fits x → read (write x ++ rest) ≡ Some (x, rest)
  -- bytes that read are the only writing of what was read
  pub only : (bytes : List ℕ) (x : X) (rest : List ℕ) → Bytes bytes → read bytes ≡ Some (x, rest) → (bytes ≡ write x ++ rest) × fits x

-- every unsigned int is four bytes, and every four bytes are one
abbrev pub IntsExact : Type 0
IntsExact = Exact (λ n. n < 2 ^ 32) int int_from

-- every unsigned hyper is eight bytes, and every eight bytes are one
abbrev pub HypersExact : Type 0
HypersExact = Exact (λ n. n < 2 ^ 64) hyper hyper_from

-- fixed opaque of each length
abbrev pub OpaquesExact : Type 0
OpaquesExact = (n : ℕ) → Exact (λ bytes. length bytes ≡ n) fixed (opaque_from n)

-- a count up to each limit
abbrev pub CountsExact : Type 0
CountsExact = (most : ℕ) → most < 2 ^ 32 → Exact (λ n. n ≤ most) int (count_from most)

-- counted lists over any elements that are exact; a test says which of them fit, since a law of all predicates would
-- be too large for a contract (proofs/Listing.antt has it)
abbrev pub ListsExact : Type 0 → Type 0
ListsExact X =
    (fits : X → Bool) (write : X → List ℕ) (read : List ℕ → Option (X × List ℕ)) (most : ℕ) → most < 2 ^ 32
    → Exact (λ x. fits x ≡ true) write read
    → Exact (λ xs. (length xs ≤ most) × AllByRecursion (λ x. fits x ≡ true) xs) (counted write) (list_from read most)

-- a counted list whose elements are all of one width
abbrev pub RowsExact : Type 0
RowsExact = (width most : ℕ) → most < 2 ^ 32 → Exact (λ rows. (length rows ≤ most) × AllByRecursion (λ row. length row ≡ width) rows) (counted fixed) (list_from (opaque_from width) most)

-- what was read element by element, with the bytes of the elements together
abbrev pub together : List (List ℕ) × List ℕ → List ℕ × List ℕ
together p = (flat_map fixed p.0, p.1)

-- to read such a list as one part of the bytes is to read its elements one by one
abbrev pub RowsJoin : Type 0
RowsJoin = (width most : ℕ) (bytes : List ℕ) → rows_from width most bytes ≡ option_map together (list_from (opaque_from width) most bytes)

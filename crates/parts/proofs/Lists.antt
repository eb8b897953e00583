-- Lists of messages, read one by one.
use Rattle.std.proofs.lemmas.Grind.{common_steps}
use Rattle.std.proofs.Common.{◌≡◌, ℕ, zero, suc, ◌+◌, ◌-◌, ◌<◌, ◌≤◌, List, [], ◌∷◌, ◌++◌, length, slice_get, Some, None, Option, sym, refl, ap, ◌∙◌, subst, arith}
use Rattle.std.proofs.lemmas.Option.{slice_get_past}
use Rattle.xdr.specs.Reading.{and_then, times_from, count_from, list_from}
use Rattle.xdr.proofs.Exactness.{answer_parts, then_parts}
use Rattle.xdr.proofs.Listing.{times_more, times_stops}
use Rattle.parts.specs.Lists.{items_then, items_from}

module _ {M : Type 0} (read : List ℕ → Option (M × List ℕ)) where
  -- what was read one by one is all that can be read, and as many
  items_are : (n : ℕ) (bytes : List ℕ) (xs : List M) (rest : List ℕ) → times_from read n bytes ≡ Some (xs, rest) → (items_from read n bytes ≡ xs) × (length xs ≡ n)
  unfolding times_from items_from
  items_are zero bytes xs rest e = grind (arith, common_steps)
  items_are (suc n) bytes xs rest e =
      let (p, first, e') = then_parts (read bytes) _ (xs, rest) e in
      let (q, others, e'') = then_parts (times_from read n p.1) _ (xs, rest) e' in
      let more = items_are n p.1 q.0 q.1 others in
      let same = answer_parts (p.0 ∷ q.0) xs q.1 rest e'' in
      (rw first (ap (λ ys. p.0 ∷ ys) more.0 ∙ same.0), sym (ap length same.0) ∙ ap suc more.1)

  few_then : (n : ℕ) (o : Option (M × List ℕ)) (more : List ℕ → List M) → ((bytes : List ℕ) → length (more bytes) ≤ n) → length (items_then o more) ≤ suc n
  few_then n None more few = omega arith
  few_then n (Some p) more few = omega (arith, few p.1)

  items_few : (n : ℕ) (bytes : List ℕ) → length (items_from read n bytes) ≤ n
  unfolding items_from
  items_few zero bytes = omega arith
  items_few (suc n) bytes = few_then n (read bytes) (items_from read n) (items_few n)

  -- there is nothing behind the last
  pub none_behind : (n place : ℕ) (bytes : List ℕ) → n ≤ place → None ≡ slice_get (items_from read n bytes) place
  none_behind n place bytes behind = sym (slice_get_past (items_from read n bytes) place (omega (arith, items_few n bytes)))

  -- one more is read, or the bytes end
  items_next : (n : ℕ) (bytes : List ℕ) (x : M) (rest : List ℕ) → Some (x, rest) ≡ read bytes → items_from read (suc n) bytes ≡ x ∷ items_from read n rest
  unfolding items_from
  items_next n bytes x rest e = ap (λ o. items_then o (items_from read n)) (sym e)

  pub items_end : (n : ℕ) (bytes : List ℕ) → None ≡ read bytes → items_from read n bytes ≡ []
  unfolding items_from
  items_end zero bytes e = refl
  items_end (suc n) bytes e = ap (λ o. items_then o (items_from read n)) (sym e)

  -- the first one, and those behind it
  pub none_first : (n : ℕ) (bytes : List ℕ) → n ≡ 0 → items_from read n bytes ≡ []
  unfolding items_from
  none_first n bytes e = rw e refl

  pub one_first : (n m : ℕ) (bytes : List ℕ) (x : M) (rest : List ℕ) → Some (x, rest) ≡ read bytes → n ≡ m + 1 → items_from read n bytes ≡ x ∷ items_from read m rest
  one_first n m bytes x rest e more =
      let next : n ≡ suc m = omega arith in
      rw next (items_next m bytes x rest e)

  -- a message at a place, seen from one place further on
  pub place_behind : (n place i : ℕ) (bytes : List ℕ) (x : M) (rest : List ℕ) → i < place → place < n → Some (x, rest) ≡ read bytes → slice_get (items_from read (n - (i + 1)) rest) (place - (i + 1)) ≡ slice_get (items_from read (n - i) bytes) (place - i)
  place_behind n place i bytes x rest before inside e =
      let more : n - i ≡ suc (n - (i + 1)) = omega arith in
      let further : place - i ≡ suc (place - (i + 1)) = omega arith in
      rw (more, further, items_next (n - (i + 1)) bytes x rest e) refl

  -- a message at the place where the bytes stand
  pub place_here : (n place i : ℕ) (bytes : List ℕ) (x : M) (rest : List ℕ) → place ≤ i → i ≤ place → place < n → Some (x, rest) ≡ read bytes → Some x ≡ slice_get (items_from read (n - i) bytes) (place - i)
  place_here n place i bytes x rest low high inside e =
      let more : n - i ≡ suc (n - (i + 1)) = omega arith in
      let here : place - i ≡ 0 = omega arith in
      rw (more, here, items_next (n - (i + 1)) bytes x rest e) refl

  pub place_missing : (n place i : ℕ) (bytes : List ℕ) → None ≡ read bytes → None ≡ slice_get (items_from read (n - i) bytes) (place - i)
  place_missing n place i bytes e = rw (items_end (n - i) bytes e) refl

  -- one by one: none, and one more
  pub none_read : (bytes : List ℕ) → times_from read 0 bytes ≡ Some (items_from read 0 bytes, bytes)
  unfolding times_from items_from
  none_read bytes = refl

  pub one_more : (i : ℕ) (bytes rest : List ℕ) (x : M) (behind : List ℕ) → times_from read i bytes ≡ Some (items_from read i bytes, rest) → Some (x, behind) ≡ read rest → times_from read (i + 1) bytes ≡ Some (items_from read (i + 1) bytes, behind)
  one_more i bytes rest x behind e f =
      let more = times_more read i bytes (items_from read i bytes) rest x behind e (sym f) in
      more ∙ ap (λ (xs : List M). Some (xs, behind)) (sym (items_are (i + 1) bytes (items_from read i bytes ++ x ∷ []) behind more).0)

  -- a counted list: the bytes end within it, or all of it is read
  pub list_stops : (most i n : ℕ) (bytes first rest : List ℕ) → Some (n, first) ≡ count_from most bytes → i < n → times_from read i first ≡ Some (items_from read i first, rest) → None ≡ read rest → None ≡ list_from read most bytes
  list_stops most i n bytes first rest counted inside e f = sym (times_stops read i n first (items_from read i first) rest inside e (sym f)) ∙ ap (λ o. and_then o (times_from read)) counted

  all_read : (i n : ℕ) (first rest : List ℕ) → n ≤ i → i ≤ n → times_from read i first ≡ Some (items_from read i first, rest) → times_from read n first ≡ Some (items_from read n first, rest)
  all_read i n first rest low high e =
      let same : i ≡ n = omega arith in
      subst (λ k. times_from read k first ≡ Some (items_from read k first, rest)) same e

  pub list_read : (most i n : ℕ) (bytes first rest : List ℕ) → Some (n, first) ≡ count_from most bytes → n ≤ i → i ≤ n → times_from read i first ≡ Some (items_from read i first, rest) → Some (items_from read n first, rest) ≡ list_from read most bytes
  list_read most i n bytes first rest counted low high e = sym (all_read i n first rest low high e) ∙ ap (λ o. and_then o (times_from read)) counted

  -- then there are as many as were counted
  pub count_kept : (i n : ℕ) (first rest : List ℕ) → n ≤ i → i ≤ n → times_from read i first ≡ Some (items_from read i first, rest) → length (items_from read n first) ≡ n
  count_kept i n first rest low high e = (items_are n first (items_from read n first) rest (all_read i n first rest low high e)).1

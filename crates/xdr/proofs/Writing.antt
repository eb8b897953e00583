-- One write after another by a writer.
use Rattle.std.proofs.Common.{◌≡◌, ℕ, ◌+◌, ◌*◌, ◌<◌, List, [], ◌++◌, length, get_or, take, refl, ap, ◌∙◌, add-zero, arith, length-append}
use Rattle.std.specs.List.{flat_map}
use Rattle.std.proofs.lemmas.List.{append-nil, drop_all, take_more, flat_map_more, length-take-le}
use Rattle.xdr.specs.declared.writer.Writer.{Writer}
use Rattle.xdr.specs.Writing.{Room, wrote}
use Rattle.xdr.proofs.Listing.{length-joined}
use Rattle.xdr.proofs.Pasting.{pasted_front, pasted_none, pasted_more, length-pasted}
use Rattle.xdr.proofs.Widths.{every, width_within}

-- no bytes change nothing
pub wrote_none : (w : Writer) → wrote w [] ≡ w
wrote_none w = rw (pasted_none w.out.now w.position, add-zero) refl

-- two writes are one
pub wrote_more : (w : Writer) (first second : List ℕ) → Room w (length first + length second) → wrote (wrote w first) second ≡ wrote w (first ++ second)
wrote_more w first second room =
    let out = pasted_more w.out.now w.position first second (w.position + length first) refl (omega (arith, room)) in
    let place : w.position + length first + length second ≡ w.position + length (first ++ second) = omega (arith, length-append first second) in
    rw (out, place) refl

-- the room that a write leaves
pub room_behind : (w after : Writer) (bytes : List ℕ) (n : ℕ) → Room w (length bytes + n) → after ≡ wrote w bytes → Room after n
room_behind w after bytes n room e =
    let same = length-pasted w.out.now w.position bytes (omega (arith, room)) in
    rw e (omega (arith, same, room))

-- rows of one width in a writer that has room for all of them: the first i, and the next
module _ {X : Type 0} (layout : X → List ℕ) (width : ℕ) (wide : (x : X) → length (layout x) ≡ width) (w : Writer) (rows : List X) (room : Room w (width * length rows)) (i : ℕ) (less : i < length rows) where
  length-first : length (flat_map layout (take i rows)) ≡ width * i
  length-first = length-joined layout width (take i rows) (every (λ row. length (layout row) ≡ width) wide (take i rows)) ∙ ap (λ n. width * n) (length-take-le i rows (omega arith))

  pub room_for_next : Room (wrote w (flat_map layout (take i rows))) width
  room_for_next = let within = width_within width i (length rows) less in room_behind w _ (flat_map layout (take i rows)) width (omega (arith, length-first)) refl

  pub wrote_next : (row : X) → row ≡ get_or rows i row → wrote (wrote w (flat_map layout (take i rows))) (layout row) ≡ wrote w (flat_map layout (take (i + 1) rows))
  wrote_next row is =
      let within = width_within width i (length rows) less in
      let more = wrote_more w (flat_map layout (take i rows)) (layout row) (omega (arith, length-first, wide row)) in
      let taken = take_more rows i row less in
      let joins = flat_map_more layout [] (take i rows) row in
      cc

-- a buffer that was written from its front to its end
pub filled : (w : Writer) (bytes : List ℕ) → w.position ≡ 0 → length bytes ≡ length w.out.now → (wrote w bytes).out.now ≡ bytes
filled w bytes front whole = rw (front, pasted_front w.out.now bytes, drop_all (length bytes) w.out.now (omega (arith, whole))) (append-nil bytes)

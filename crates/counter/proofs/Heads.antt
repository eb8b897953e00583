-- The bytes of a statement: as they are written, and that no two statements share them.
use Rattle.std.proofs.Common.{◌≡◌, [], ◌∷◌, length, ap, ◌∙◌, arith}
use Rattle.std.specs.List.{flat_map}
use Rattle.xdr.proofs.Writing.{wrote_more, filled}
use Rattle.xdr.specs.Layout.{int, hyper}
use Rattle.xdr.specs.Writing.{wrote}
use Rattle.xdr.specs.declared.writer.Writer.{Writer}
use Rattle.counter.specs.Statements.{Stated, head_bytes, StatementsApart}

-- three ints and two hypers, written one behind the other, fill a buffer of their length
pub head_written : (s : Stated) (w : Writer) → w.position ≡ 0 → length w.out.now ≡ 28
    → (wrote (wrote w (flat_map int (s.kind ∷ s.seat ∷ s.number ∷ []))) (flat_map hyper (s.new ∷ s.old ∷ []))).out.now ≡ head_bytes s
unfolding head_bytes
head_written s w front long =
    ap (λ (v : Writer). v.out.now) (wrote_more w (flat_map int (s.kind ∷ s.seat ∷ s.number ∷ [])) (flat_map hyper (s.new ∷ s.old ∷ [])) (omega (arith, front, long)))
    ∙ filled w _ front (omega (arith, long))

-- the two statements say the same, field by field
pub statements_apart : StatementsApart
unfolding head_bytes
statements_apart s t f g e = grind arith

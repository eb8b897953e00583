-- The closure gives a row's glyph, and the slice is the register's rows.
use Rattle.std.proofs.Common.{rules}
use Rattle.std.proofs.lemmas.List.Sorted.{answers_always}
use Rattle.registers.proofs.Places.{searched}
use Rattle.registers.proofs.glyphs.GlyphRegister.find.Goals as goal

pub returns : goal.returns
returns c =
    let facts = c.binary_search_by_key.ensures in
    let by_glyph = facts.position (λ row. row.glyph) (answers_always _ _ _ (λ f a r g called. search rules)) in
    rw (← c.deref.ensures.value) (searched _ (rw c.deref.ensures.value c.args.self.now.ordered) c.args.glyph _ facts.bound by_glyph)

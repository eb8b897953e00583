-- What is kept of a client, as bytes.
use Rattle.std.specs.Prelude.{ℕ, List, [], ◌∷◌}
use Rattle.std.specs.List.{flat_map}
use Rattle.xdr.specs.Layout.{int}
use Rattle.service.specs.declared.kept.Kept.{Kept}

-- last sequence, status, value
abbrev pub kept_bytes : Kept → List ℕ
kept_bytes k = flat_map int (k.sequence ∷ k.reply.0 ∷ k.reply.1 ∷ [])

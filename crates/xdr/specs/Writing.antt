-- The room that a writer has left, and the writer after a write.
use Rattle.std.specs.Prelude.{ℕ, ◌+◌, ◌≤◌, List, length}
use Rattle.xdr.specs.declared.writer.Writer.{Writer}
use Rattle.xdr.specs.Layout.{pasted}

-- so many bytes are left in its buffer
abbrev pub Room : Writer → ℕ → Type 0
Room w n = w.position + n ≤ length w.out.now

-- the same buffer with new bytes in it, and the place behind them
abbrev pub wrote : Writer → List ℕ → Writer
wrote w bytes = record w { out = record w.out { now = pasted w.out.now w.position bytes }; position = w.position + length bytes }

-- What a service answers for its written state.
use Rattle.std.specs.Prelude.{ℕ, min, if◌then◌else◌, List, length, Some, None, Option, nat_le}
use Rattle.xdr.specs.Layout.{pasted}

-- the number of bytes. No buffer is longer than the largest number of 64 bits, which stands for every length above it
abbrev pub length_answer : List ℕ → ℕ
length_answer bytes = min (length bytes) 18446744073709551615

-- the answer and the buffer: a buffer that is too short stays as it is, else the bytes stand at its front
abbrev pub written_into : List ℕ → List ℕ → Option ℕ × List ℕ
written_into bytes buffer = if nat_le (length bytes) (length buffer) then (Some (length bytes), pasted buffer 0 bytes) else (None, buffer)

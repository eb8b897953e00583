-- How bytes are read as PREPAREs, COMMITs and CHECKPOINTs.
use Rattle.std.specs.Prelude.{ℕ, ◌+◌, ◌*◌, List, length, get_or, Option, Some, None, if◌then◌else◌, nat_eq}
use Rattle.terms.specs.Numbers.{request_bytes, digest_bytes, tag_bytes}
use Rattle.terms.specs.declared.requests.Request.{Request}
use Rattle.xdr.specs.Reading.{and_then, int_from, opaque_from}
use Rattle.parts.specs.Encoding.{prepare_type, commit_type, checkpoint_type}
use Rattle.parts.specs.Messages.{Prepare, Commit, Checkpoint}

-- one type, and no other
abbrev pub type_from : ℕ → List ℕ → Option (ℕ × List ℕ)
type_from type bytes = and_then (int_from bytes) (λ found rest. if nat_eq found type then Some (found, rest) else None)

-- a message of one type: the type, and then the rest by that type
abbrev pub of_type : {M : Type 0} → ℕ → (List ℕ → Option (M × List ℕ)) → List ℕ → Option (M × List ℕ)
of_type type rest_from bytes = and_then (type_from type bytes) (λ _ rest. rest_from rest)

-- a message that is all of the bytes
abbrev pub whole : {M : Type 0} → Option (M × List ℕ) → Option M
whole None = None
whole (Some p) = if nat_eq (length p.1) 0 then Some p.0 else None

-- the unsigned int at a place
abbrev pub int_at : List ℕ → ℕ → ℕ
int_at bytes k = get_or bytes k 0 * 16777216 + get_or bytes (k + 1) 0 * 65536 + get_or bytes (k + 2) 0 * 256 + get_or bytes (k + 3) 0

-- the request whose bytes these are: five unsigned ints
unfoldable pub request_of : List ℕ → Request
request_of bytes = record { client = int_at bytes 0; sequence = int_at bytes 4; code = int_at bytes 8; key = int_at bytes 12; value = int_at bytes 16 }

abbrev pub request_from : List ℕ → Option (Request × List ℕ)
request_from bytes = and_then (opaque_from request_bytes bytes) (λ part rest. Some (request_of part, rest))

-- behind the type of a PREPARE
unfoldable pub prepare_rest : List ℕ → Option (Prepare × List ℕ)
prepare_rest bytes =
    and_then (int_from bytes) (λ view rest.
    and_then (int_from rest) (λ order rest.
    and_then (request_from rest) (λ request rest.
    and_then (opaque_from tag_bytes rest) (λ tag rest.
    Some (record { view = view; order = order; request = request; tag = tag }, rest)))))

abbrev pub prepare_from : List ℕ → Option (Prepare × List ℕ)
prepare_from = of_type prepare_type prepare_rest

-- behind the type of a COMMIT
unfoldable pub commit_rest : List ℕ → Option (Commit × List ℕ)
commit_rest bytes =
    and_then (int_from bytes) (λ sender rest.
    and_then (int_from rest) (λ view rest.
    and_then (int_from rest) (λ order rest.
    and_then (request_from rest) (λ request rest.
    and_then (opaque_from tag_bytes rest) (λ tag rest.
    Some (record { sender = sender; view = view; order = order; request = request; tag = tag }, rest))))))

abbrev pub commit_from : List ℕ → Option (Commit × List ℕ)
commit_from = of_type commit_type commit_rest

-- behind the type of a CHECKPOINT
unfoldable pub checkpoint_rest : List ℕ → Option (Checkpoint × List ℕ)
checkpoint_rest bytes =
    and_then (int_from bytes) (λ sender rest.
    and_then (int_from rest) (λ order rest.
    and_then (opaque_from digest_bytes rest) (λ digest rest.
    and_then (opaque_from tag_bytes rest) (λ tag rest.
    Some (record { sender = sender; order = order; digest = digest; tag = tag }, rest)))))

abbrev pub checkpoint_from : List ℕ → Option (Checkpoint × List ℕ)
checkpoint_from = of_type checkpoint_type checkpoint_rest

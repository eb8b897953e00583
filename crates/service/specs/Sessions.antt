-- Sessions over any service: what a request answers and leaves.
use Rattle.std.specs.Prelude.{ℕ, Bool, if◌then◌else◌, ◌&&◌, ◌||◌, List, ◌++◌, ◌==◌, nat_le, nat_lt, slice_index_or, slice_set}
use Rattle.std.specs.List.{flat_map}
use Rattle.terms.specs.declared.requests.Request.{Request}
use Rattle.service.specs.declared.kept.Kept.{Kept}
use Rattle.service.specs.Kept.{kept_bytes}

-- clients are 0 to 15
abbrev pub clients : ℕ
clients = 16

-- what is kept of a client before its first request
abbrev pub nothing_kept : Kept
nothing_kept = record { sequence = 0; reply = (0, 0) }

-- what is kept of the request's client
abbrev pub kept_for : List Kept → Request → Kept
kept_for kept r = slice_index_or kept r.client nothing_kept

-- a client that there is asks with a sequence above its last
abbrev pub is_new : List Kept → Request → Bool
is_new kept r = nat_lt r.client clients && nat_lt (kept_for kept r).sequence r.sequence

module _ {St : Type 0} where
  -- a client above 15: status 3; sequence 0, or below the last: status 4; the last again: the kept reply; a higher one: the reply from below
  abbrev pub session_reply : (St → Request → ℕ × ℕ) → List Kept × St → Request → ℕ × ℕ
  session_reply reply s r =
      if nat_le clients r.client then (3, 0) else
      if r.sequence == 0 || nat_lt r.sequence (kept_for s.0 r).sequence then (4, 0) else
      if r.sequence == (kept_for s.0 r).sequence then (kept_for s.0 r).reply else
      reply s.1 r

  -- only a new request changes anything: it is applied below, and its reply is kept
  abbrev pub session_next : (St → Request → St) → (St → Request → ℕ × ℕ) → List Kept × St → Request → List Kept × St
  session_next next reply s r =
      if is_new s.0 r then (slice_set s.0 r.client (record { sequence = r.sequence; reply = reply s.1 r }), next s.1 r) else s

  -- what is kept of each client, then the state below
  abbrev pub session_written : (St → List ℕ) → List Kept × St → List ℕ
  session_written written s = flat_map kept_bytes s.0 ++ written s.1

-- The release line: what a request answers and leaves.
use Rattle.std.specs.Prelude.{ℕ, if◌then◌else◌, ◌&&◌, ◌==◌, nat_lt}
use Rattle.terms.specs.declared.requests.Request.{Request}

-- code 1 raises the line to the value, or answers status 2 if the value is not above it; code 2 reads it; another code: status 1
abbrev pub release_reply : ℕ → Request → ℕ × ℕ
release_reply released r =
    if r.code == 1 then (if nat_lt released r.value then (0, r.value) else (2, 0)) else
    if r.code == 2 then (0, released) else
    (1, 0)

-- only a raise above the line changes it
abbrev pub release_next : ℕ → Request → ℕ
release_next released r = if r.code == 1 && nat_lt released r.value then r.value else released

-- What a refused call leaves: everything.
use Rattle.std.specs.Prelude.{◌≡◌, ℕ, Bool, false, List, [], is_ok}
use Rattle.terms.specs.declared.requests.Request.{Request}
use Rattle.protocol.specs.Ask.{asked}
use Rattle.protocol.specs.CarryOut.{carried_out}
use Rattle.protocol.specs.Mark.{marked}
use Rattle.protocol.specs.Meanings.{Meaning}
use Rattle.protocol.specs.Open.{opened}
use Rattle.protocol.specs.Outcomes.{Outcome}
use Rattle.protocol.specs.Replicas.{Replica}
use Rattle.protocol.specs.Runs.{Call, World, called, came_to}
use Rattle.protocol.specs.Runs.Call.{Ask, Take, Vote, CarryOut, Mark, Suspect, Open}
use Rattle.protocol.specs.Suspect.{suspected}
use Rattle.protocol.specs.Take.{taken}
use Rattle.protocol.specs.Vote.{voted}

-- if the call is refused, the replica and the buffers are as they were, and nothing was certified
abbrev pub LeavesAll : {A B St : Type 0} → Replica St → B → Outcome A B St → Type 0
LeavesAll r lent o = is_ok o.0 ≡ false → (o.1 ≡ r) × (o.2 ≡ lent) × (o.3 ≡ [])

-- the call is answered, and not refused
abbrev pub answered : {St : Type 0} → Meaning St → Replica St → Call → Bool
answered M r (Ask request out) = is_ok (asked r request out).0
answered M r (Take bytes) = is_ok (taken r bytes).0
answered M r (Vote out) = is_ok (voted r out).0
answered M r CarryOut = is_ok (carried_out M r).0
answered M r (Mark scratch out) = is_ok (marked M r scratch out).0
answered M r (Suspect out) = is_ok (suspected r out).0
answered M r (Open out) = is_ok (opened r out).0

-- for every replica in every standing, and any arguments
pub record RefusalsLeaveAll {St : Type 0} (M : Meaning St) : Type 0 where
  pub ask : (r : Replica St) (request : Request) (out : List ℕ) → LeavesAll r out (asked r request out)
  pub take : (r : Replica St) (bytes : List ℕ) → LeavesAll r tt (taken r bytes)
  pub vote : (r : Replica St) (out : List ℕ) → LeavesAll r out (voted r out)
  pub carry_out : (r : Replica St) → LeavesAll r tt (carried_out M r)
  pub mark : (r : Replica St) (scratch out : List ℕ) → LeavesAll r (scratch, out) (marked M r scratch out)
  pub suspect : (r : Replica St) (out : List ℕ) → LeavesAll r out (suspected r out)
  pub open_view : (r : Replica St) (out : List ℕ) → LeavesAll r out (opened r out)
  -- so in a run it leaves the whole world as it was
  pub world : (w : World St) (seat : ℕ) (c : Call) → answered M (w.members seat).replica c ≡ false → came_to w seat (called M (w.members seat) c) ≡ w

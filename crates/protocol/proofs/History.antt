-- What a run leaves behind: the statements that were issued, and the NEW-VIEWs that correct replicas accepted; and what
-- correct replicas keep to. Agreement follows from this alone.
use Rattle.std.specs.Prelude.{if◌then◌else◌, ◌==◌, ◌&&◌}
use Rattle.std.proofs.Common.{◌≡◌, ℕ, ◌+◌, ◌*◌, ◌<◌, ◌≤◌, ◌⊎◌, List, [], ◌∷◌, length, map}
use Rattle.terms.specs.Pairs.{paired}
use Rattle.terms.specs.Quorums.{leader_of}
use Rattle.counter.specs.Statements.{Stated}
use Rattle.parts.specs.Fits.{PrepareFits, CheckpointFits}
use Rattle.parts.specs.Messages.{Prepare, Commit, Checkpoint}
use Rattle.parts.specs.Statements.{prepare_says, commit_says, checkpoint_says}
use Rattle.message.specs.Fits.{ViewChangeFits}
use Rattle.message.specs.Messages.{ViewChange, NewView}
use Rattle.message.specs.Statements.{view_change_says}
use Rattle.protocol.specs.Changes.{last_of, highest_from, low_of, top_of}
use Rattle.protocol.specs.Runs as runs
use Rattle.protocol.specs.Sets.{◌∈◌, Distinct}

-- n seats, of which a quorum is more than half, and fewer than a quorum are not correct. Nothing else is used of n
pub record Group : Type 0 where
  pub seats : ℕ
  pub quorum : ℕ
  pub faulty : List ℕ
  pub majority : seats < 2 * quorum
  pub few : length faulty < quorum

abbrev pub Correct : Group → ℕ → Type 0
Correct g s = runs.Correct g.seats g.faulty s

-- the newest statement stands first
pub record Past : Type 0 where
  pub log : List Stated
  pub accepted : List NewView

-- the value that a seat's counter of a number shows after a log
abbrev pub value_of : List Stated → ℕ → ℕ → ℕ
value_of [] seat number = 0
value_of (s ∷ older) seat number = if s.seat == seat && s.number == number then s.new else value_of older seat number

-- what a counter that shows a value may certify: kind 1 is continuing, kind 2 independent
abbrev pub Allowed : ℕ → Stated → Type 0
Allowed present s = ((s.kind ≡ 1) × (s.old ≡ present) × (present ≤ s.new)) ⊎ ((s.kind ≡ 2) × (s.old ≡ 0) × (present < s.new))

abbrev pub Legal : List Stated → Type 0
Legal [] = Unit {0}
Legal (s ∷ older) = Allowed (value_of older s.seat s.number) s × Legal older

-- PREPAREs of a view for low + 1 onward
abbrev pub InTurn : ℕ → ℕ → List Prepare → Type 0
InTurn view low [] = Unit {0}
InTurn view low (p ∷ ps) = (p.view ≡ view) × (p.order ≡ low + 1) × InTurn view (low + 1) ps

pub record Complete (c : ViewChange) : Type 0 where
  pub rises : c.previous < paired c.target 0
  pub older : c.from < c.target
  pub run : InTurn c.from c.low c.entries
  -- a vote that the counter shows is not left out
  pub votes : (v a : ℕ) → c.previous ≡ paired v a → 0 < a → a < 4294967296 → (v ≤ c.from) × (c.from ≡ v → a ≤ last_of c)

-- the COMMIT of a seat for a proposal
abbrev pub commit_of : ℕ → Prepare → Commit
commit_of s p = record { sender = s; view = p.view; order = p.order; request = p.request; tag = p.tag }

module _ (g : Group) (h : Past) where
  abbrev pub Prepared : Prepare → Type 0
  Prepared p = PrepareFits p × (prepare_says g.seats p ∈ h.log)

  -- the seat's order message for a proposal
  abbrev pub Voted : Prepare → ℕ → Type 0
  Voted p s = ((s ≡ leader_of g.seats p.view) × Prepared p) ⊎ (PrepareFits p × (commit_says g.seats (commit_of s p) ∈ h.log))

  -- the view is 0, or one that a correct replica accepted with no more than low and last
  abbrev pub Backed : ℕ → ℕ → ℕ → Type 0
  Backed view low last = (view ≡ 0) ⊎ ((w : NewView) × (w ∈ h.accepted) × (w.view ≡ view) × (low_of w ≤ low) × (top_of w ≤ last))

  -- the view was open at a correct replica, with a low below the order
  abbrev pub Opened : ℕ → ℕ → Type 0
  Opened view order = (view ≡ 0) ⊎ ((w : NewView) × (w ∈ h.accepted) × (w.view ≡ view) × (low_of w < order))

  -- CHECKPOINTs that prove a low mark: a quorum's for that order, with one digest
  pub record Proves (low : ℕ) (cs : List Checkpoint) : Type 0 where
    pub digest : List ℕ
    pub many : g.quorum ≤ length cs
    pub distinct : Distinct (map (λ (c : Checkpoint). c.sender) cs)
    pub seated : (c : Checkpoint) → c ∈ cs → c.sender < g.seats
    pub same : (c : Checkpoint) → c ∈ cs → (c.order ≡ low) × (c.digest ≡ digest)
    pub fits : (c : Checkpoint) → c ∈ cs → CheckpointFits c
    pub issued : (c : Checkpoint) → c ∈ cs → checkpoint_says g.seats c ∈ h.log

  -- a low mark of 0 needs no proof
  abbrev pub Proved : ℕ → List Checkpoint → Type 0
  Proved low cs = ((low ≡ 0) × (cs ≡ [])) ⊎ Proves low cs

  -- a VIEW-CHANGE that a correct replica holds, or its own
  pub record Standing (c : ViewChange) : Type 0 where
    pub issued : view_change_says g.seats c ∈ h.log
    pub fits : ViewChangeFits c
    pub complete : Complete c
    pub proved : Proved c.low c.proof
    pub prepared : (p : Prepare) → p ∈ c.entries → Prepared p
    -- its from view was accepted, and nothing of it is left out
    pub noted : Backed c.from c.low (last_of c)

  pub record Quorum (target : ℕ) (cs : List ViewChange) : Type 0 where
    pub many : g.quorum ≤ length cs
    pub distinct : Distinct (map (λ (c : ViewChange). c.sender) cs)
    pub seated : (c : ViewChange) → c ∈ cs → c.sender < g.seats
    pub aimed : (c : ViewChange) → c ∈ cs → c.target ≡ target
    pub standing : (c : ViewChange) → c ∈ cs → Standing c

  -- what a NEW-VIEW proposes again: up to the last entry of the highest from view, each with the request it had there
  pub record Accepted (w : NewView) : Type 0 where
    pub quorum : Quorum w.view w.changes
    pub run : InTurn w.view (low_of w) w.prepares
    pub prepared : (p : Prepare) → p ∈ w.prepares → Prepared p
    pub reach : (c : ViewChange) → c ∈ w.changes → c.from ≡ highest_from w.changes → last_of c ≤ top_of w
    pub source : (p : Prepare) → p ∈ w.prepares → (c : ViewChange) × (e : Prepare) × (c ∈ w.changes) × (c.from ≡ highest_from w.changes) × (e ∈ c.entries) × (e.order ≡ p.order) × (e.request ≡ p.request)

  -- why a correct replica wrote its VIEW-CHANGE: the view before was open, or a quorum left it too and nothing that they
  -- told is lost
  abbrev pub Cause : ViewChange → Type 0
  Cause c = (c.target ≡ c.from + 1) ⊎ ((cs : List ViewChange) × (t : ℕ) × (c.target ≡ t + 1) × Quorum t cs × ((x : ViewChange) → x ∈ cs → (x.from ≤ c.from) × (x.low ≤ c.low) × (x.from ≡ c.from → last_of x ≤ last_of c)))

  -- order messages of a quorum for one proposal
  pub record Committed (p : Prepare) : Type 0 where
    pub voters : List ℕ
    pub many : g.quorum ≤ length voters
    pub distinct : Distinct voters
    pub seated : (s : ℕ) → s ∈ voters → s < g.seats
    pub voted : (s : ℕ) → s ∈ voters → Voted p s

  -- what a correct replica votes for: a proposal of a view that it opened, above its low
  pub record Sound (p : Prepare) : Type 0 where
    pub positive : 0 < p.order
    pub issued : Prepared p
    pub opened : Opened p.view p.order

  -- what correct replicas keep to
  pub record Rules : Type 0 where
    pub legal : Legal h.log
    pub accepts : (w : NewView) → w ∈ h.accepted → Accepted w
    pub changes : (c : ViewChange) → ViewChangeFits c → view_change_says g.seats c ∈ h.log → Correct g c.sender → Standing c × Cause c
    pub votes : (p : Prepare) (s : ℕ) → Correct g s → Voted p s → Sound p

-- What holds of a past holds of each longer one.
use Rattle.std.proofs.Common.{ℕ, List, ◌++◌, inl, inr}
use Rattle.counter.specs.Statements.{Stated}
use Rattle.parts.specs.Messages.{Prepare, Checkpoint}
use Rattle.message.specs.Messages.{ViewChange, NewView}
use Rattle.protocol.specs.Runs.{put_on}
use Rattle.protocol.specs.Sets.{◌∈◌}
use Rattle.protocol.proofs.History.{Group, Past, Prepared, Voted, Backed, Opened, Proved, Standing, Quorum, Accepted, Cause, Committed, Sound}
use Rattle.protocol.proofs.Lists.{in_right, put_old}

pub record Longer (h k : Past) : Type 0 where
  pub log : (s : Stated) → s ∈ h.log → s ∈ k.log
  pub accepted : (w : NewView) → w ∈ h.accepted → w ∈ k.accepted

-- a past after more statements and more NEW-VIEWs
abbrev pub later : Past → List Stated → List NewView → Past
later h certified entered = record { log = put_on certified h.log; accepted = entered ++ h.accepted }

pub later_longer : (h : Past) (certified : List Stated) (entered : List NewView) → Longer h (later h certified entered)
later_longer h certified entered = record { log = λ s i. put_old s certified h.log i; accepted = λ w i. in_right w entered h.accepted i }

module _ (g : Group) (h k : Past) (longer : Longer h k) where
  pub prepared_grows : (p : Prepare) → Prepared g h p → Prepared g k p
  prepared_grows p a = (a.0, longer.log _ a.1)

  pub voted_grows : (p : Prepare) (s : ℕ) → Voted g h p s → Voted g k p s
  voted_grows p s (inl a) = inl (a.0, prepared_grows p a.1)
  voted_grows p s (inr a) = inr (a.0, longer.log _ a.1)

  pub backed_grows : (view low last : ℕ) → Backed g h view low last → Backed g k view low last
  backed_grows view low last (inl a) = inl a
  backed_grows view low last (inr a) = inr (a.0, longer.accepted _ a.1, a.2, a.3, a.4)

  pub proved_grows : (low : ℕ) (cs : List Checkpoint) → Proved g h low cs → Proved g k low cs
  proved_grows low cs (inl a) = inl a
  proved_grows low cs (inr a) = inr (record {
    digest = a.digest;
    many = a.many;
    distinct = a.distinct;
    seated = a.seated;
    same = a.same;
    fits = a.fits;
    issued = λ c i. longer.log _ (a.issued c i);
  })

  pub standing_grows : (c : ViewChange) → Standing g h c → Standing g k c
  standing_grows c s = record {
    issued = longer.log _ s.issued;
    fits = s.fits;
    complete = s.complete;
    proved = proved_grows _ _ s.proved;
    prepared = λ p i. prepared_grows p (s.prepared p i);
    noted = backed_grows _ _ _ s.noted;
  }

  quorum_grows : (target : ℕ) (cs : List ViewChange) → Quorum g h target cs → Quorum g k target cs
  quorum_grows target cs q = record {
    many = q.many;
    distinct = q.distinct;
    seated = q.seated;
    aimed = q.aimed;
    standing = λ c i. standing_grows c (q.standing c i);
  }

  pub accepted_grows : (w : NewView) → Accepted g h w → Accepted g k w
  accepted_grows w a = record {
    quorum = quorum_grows _ _ a.quorum;
    run = a.run;
    prepared = λ p i. prepared_grows p (a.prepared p i);
    reach = a.reach;
    source = a.source;
  }

  pub cause_grows : (c : ViewChange) → Cause g h c → Cause g k c
  cause_grows c (inl a) = inl a
  cause_grows c (inr a) = inr (a.0, a.1, a.2, quorum_grows _ _ a.3, a.4)

  opened_grows : (view order : ℕ) → Opened g h view order → Opened g k view order
  opened_grows view order (inl a) = inl a
  opened_grows view order (inr a) = inr (a.0, longer.accepted _ a.1, a.2, a.3)

  pub sound_grows : (p : Prepare) → Sound g h p → Sound g k p
  sound_grows p s = record { positive = s.positive; issued = prepared_grows p s.issued; opened = opened_grows _ _ s.opened }

  pub committed_grows : (p : Prepare) → Committed g h p → Committed g k p
  committed_grows p c = record { voters = c.voters; many = c.many; distinct = c.distinct; seated = c.seated; voted = λ s i. voted_grows p s (c.voted s i) }

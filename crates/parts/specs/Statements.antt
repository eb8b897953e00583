-- For which statements PREPAREs, COMMITs and CHECKPOINTs are tagged.
use Rattle.std.specs.Prelude.{ℕ}
use Rattle.terms.specs.Pairs.{paired}
use Rattle.terms.specs.Quorums.{leader_of}
use Rattle.counter.specs.Kinds.{kind_number}
use Rattle.counter.specs.Statements.{Stated}
use Rattle.counter.specs.declared.kinds.Kind.TheVariants.{Continuing, Independent}
use Rattle.parts.specs.Messages.{Prepare, Commit, Checkpoint}
use Rattle.parts.specs.Encoding.{untagged_prepare, untagged_commit, untagged_checkpoint}

-- the counter of orders, of CHECKPOINTs and of NEW-VIEWs
abbrev pub order_counter : ℕ
order_counter = 0

abbrev pub checkpoint_counter : ℕ
checkpoint_counter = 1

abbrev pub view_counter : ℕ
view_counter = 2

-- PREPARE and COMMIT: independent, the value [view|order]; PREPARE by the leader of its view
abbrev pub prepare_says : ℕ → Prepare → Stated
prepare_says n p = record {
  kind = kind_number Independent;
  seat = leader_of n p.view;
  number = order_counter;
  new = paired p.view p.order;
  old = 0;
  message = untagged_prepare p;
}

abbrev pub commit_says : ℕ → Commit → Stated
commit_says n c = record {
  kind = kind_number Independent;
  seat = c.sender;
  number = order_counter;
  new = paired c.view c.order;
  old = 0;
  message = untagged_commit c;
}

-- CHECKPOINT: continuing, from 0 to 0
abbrev pub checkpoint_says : ℕ → Checkpoint → Stated
checkpoint_says n c = record {
  kind = kind_number Continuing;
  seat = c.sender;
  number = checkpoint_counter;
  new = 0;
  old = 0;
  message = untagged_checkpoint c;
}

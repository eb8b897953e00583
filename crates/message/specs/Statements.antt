-- For which statements the messages that hold others are tagged.
use Rattle.std.specs.Prelude.{ℕ}
use Rattle.terms.specs.Pairs.{paired}
use Rattle.terms.specs.Quorums.{leader_of}
use Rattle.counter.specs.Kinds.{kind_number}
use Rattle.counter.specs.Statements.{Stated}
use Rattle.counter.specs.declared.kinds.Kind.TheVariants.{Continuing, Independent}
use Rattle.parts.specs.Statements.{order_counter, view_counter}
use Rattle.message.specs.Encoding.{untagged_view_change, untagged_new_view}
use Rattle.message.specs.Messages.{ViewChange, NewView}

-- VIEW-CHANGE: continuing, from the previous value to [target|0]
abbrev pub view_change_says : ℕ → ViewChange → Stated
view_change_says n c = record {
  kind = kind_number Continuing;
  seat = c.sender;
  number = order_counter;
  new = paired c.target 0;
  old = c.previous;
  message = untagged_view_change c;
}

-- NEW-VIEW: independent, the value of its view, by the leader of its view
abbrev pub new_view_says : ℕ → NewView → Stated
new_view_says n v = record {
  kind = kind_number Independent;
  seat = leader_of n v.view;
  number = view_counter;
  new = v.view;
  old = 0;
  message = untagged_new_view v;
}

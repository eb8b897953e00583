-- PREPAREs that a seat's counter certifies, one after the other.
use Rattle.std.specs.Prelude.{ℕ, List, [], map}
use Rattle.terms.specs.Pairs.{paired}
use Rattle.counter.specs.Kinds.{kind_number}
use Rattle.counter.specs.Statements.{Stated}
use Rattle.counter.specs.declared.kinds.Kind.TheVariants.{Independent}
use Rattle.drafts.specs.Says.{prepare_with}
use Rattle.drafts.specs.declared.prepare.PrepareDraft.{PrepareDraft}
use Rattle.parts.specs.Encoding.{untagged_prepare}
use Rattle.parts.specs.Messages.{Prepare}
use Rattle.message.specs.Encoding.{untagged_new_view}
use Rattle.message.specs.Messages.{ViewChange, NewView}
use Rattle.parts.specs.Statements.{order_counter, view_counter}

-- drafts as PREPAREs that have no tag yet
abbrev pub bare : List PrepareDraft → List Prepare
bare drafts = map (λ d. prepare_with d []) drafts

-- a PREPARE with the tag that the counter of a seat gives it
abbrev pub signed : (Stated → List ℕ) → ℕ → Prepare → Prepare
signed rule seat p = record {
  view = p.view;
  order = p.order;
  request = p.request;
  tag = rule (record { kind = kind_number Independent; seat = seat; number = order_counter; new = paired p.view p.order; old = 0; message = untagged_prepare p });
}

-- a NEW-VIEW that shows VIEW-CHANGEs and proposes PREPAREs again, which a seat's counter signs: before its own tag
abbrev pub untagged_opening : (Stated → List ℕ) → ℕ → ℕ → List ViewChange → List Prepare → NewView
untagged_opening rule seat view cs ps = record { view = view; changes = cs; prepares = map (signed rule seat) ps; tag = [] }

-- and with the tag that the counter gives it
abbrev pub signed_new_view : (Stated → List ℕ) → ℕ → ℕ → List ViewChange → List Prepare → NewView
signed_new_view rule seat view cs ps = record (untagged_opening rule seat view cs ps) {
  tag = rule (record { kind = kind_number Independent; seat = seat; number = view_counter; new = view; old = 0; message = untagged_new_view (untagged_opening rule seat view cs ps) });
}

-- When the tags in a message are believed.
use Rattle.std.specs.Prelude.{ℕ, Bool, List, bytes_eq}
use Rattle.std.specs.List.{list_all}
use Rattle.counter.specs.Statements.{Stated}
use Rattle.protocol.specs.Showings.{Showing}

module _ (rule : Stated → List ℕ) where
  -- a tag is the rule's for the statement that it is shown for
  abbrev pub tag_holds : Showing → Bool
  tag_holds x = bytes_eq (rule x.statement) x.tag

  abbrev pub tags_hold : List Showing → Bool
  tags_hold shown = list_all tag_holds shown

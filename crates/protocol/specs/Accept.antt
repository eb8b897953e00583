-- What a replica does with a NEW-VIEW, one that it took or one that it wrote itself.
use Rattle.std.specs.Prelude.{◌-◌, max, if◌then◌else◌, List, [], ◌∷◌, ◌++◌, length, drop, map, filter, nat_lt}
use Rattle.terms.specs.Numbers.{noted_views}
use Rattle.terms.specs.Quorums.{leader_of}
use Rattle.message.specs.Messages.{NewView}
use Rattle.protocol.specs.Changes.{low_of, top_of}
use Rattle.protocol.specs.Replicas.{Noted, Replica, nothing_held}
use Rattle.protocol.specs.Standing.{with_vote_of}

-- the last eight
abbrev pub latest : List Noted → List Noted
latest notes = drop (length notes - noted_views) notes

abbrev pub note_for : NewView → Noted
note_for w = record { view = w.view; low = low_of w; top = top_of w }

module _ {St : Type 0} where
  -- its view, low and top are noted. Its PREPAREs above the own low become the record, with the leader's vote; the view
  -- rises to it if it is lower. VIEW-CHANGEs are dropped unless the own view is higher
  unfoldable pub accepted : Replica St → NewView → Replica St
  accepted r w = record r {
    view = max r.view w.view;
    from = w.view;
    entries = map (with_vote_of (leader_of r.size w.view)) (filter (λ p. nat_lt r.low p.order) w.prepares);
    noted = latest (r.noted ++ note_for w ∷ []);
    changes = if nat_lt w.view r.view then r.changes else nothing_held;
  }

-- Every number of the rules and every limit that follows from one, for the contracts of all crates.
use Rattle.std.specs.Prelude.{◌≡◌, ℕ, ◌+◌, ◌*◌, ◌/◌}
use Rattle.terms.specs.declared.constants.Limits.{Limits}

-- a group has at least and at most so many seats
abbrev pub smallest_group : ℕ
smallest_group = 3

abbrev pub largest_group : ℕ
largest_group = 5

-- the quorum of the largest group: the most CHECKPOINTs in a proof, and the most VIEW-CHANGEs in a NEW-VIEW
abbrev pub largest_quorum : ℕ
largest_quorum = largest_group / 2 + 1

-- so many orders above the low mark may be proposed
abbrev pub window : ℕ
window = 16

-- every multiple of it above 0 is a checkpoint
abbrev pub checkpoint_interval : ℕ
checkpoint_interval = 8

-- so many accepted views are remembered
abbrev pub noted_views : ℕ
noted_views = 8

-- the bytes of a number, a long number, a request, a digest, a tag
abbrev pub int_bytes : ℕ
int_bytes = 4

abbrev pub hyper_bytes : ℕ
hyper_bytes = 8

abbrev pub request_bytes : ℕ
request_bytes = 5 * int_bytes

abbrev pub digest_bytes : ℕ
digest_bytes = 32

abbrev pub tag_bytes : ℕ
tag_bytes = 32

-- type, view, order, request, tag
abbrev pub prepare_bytes : ℕ
prepare_bytes = 3 * int_bytes + request_bytes + tag_bytes

-- type, sender, view, order, request, tag
abbrev pub commit_bytes : ℕ
commit_bytes = 4 * int_bytes + request_bytes + tag_bytes

-- type, sender, order, digest, tag
abbrev pub checkpoint_bytes : ℕ
checkpoint_bytes = 3 * int_bytes + digest_bytes + tag_bytes

-- type, sender, target, previous, from, low, two counts, tag
abbrev pub shortest_view_change : ℕ
shortest_view_change = 7 * int_bytes + hyper_bytes + tag_bytes

abbrev pub longest_view_change : ℕ
longest_view_change = shortest_view_change + largest_quorum * checkpoint_bytes + window * prepare_bytes

-- type, view, two counts, tag
abbrev pub shortest_new_view : ℕ
shortest_new_view = 4 * int_bytes + tag_bytes

abbrev pub longest_new_view : ℕ
longest_new_view = shortest_new_view + largest_quorum * longest_view_change + window * prepare_bytes

abbrev pub limits_in_force : Limits
limits_in_force = record {
  smallest_group = smallest_group;
  largest_group = largest_group;
  largest_quorum = largest_quorum;
  window = window;
  checkpoint_interval = checkpoint_interval;
  noted_views = noted_views;
  prepare_bytes = prepare_bytes;
  commit_bytes = commit_bytes;
  checkpoint_bytes = checkpoint_bytes;
  shortest_view_change = shortest_view_change;
  longest_view_change = longest_view_change;
  shortest_new_view = shortest_new_view;
  longest_new_view = longest_new_view;
  out_bytes = longest_new_view;
}

-- the same in figures
abbrev pub LimitsInFigures : Type 0
LimitsInFigures =
    (largest_quorum ≡ 3) × (prepare_bytes ≡ 64) × (commit_bytes ≡ 68) × (checkpoint_bytes ≡ 76)
    × (shortest_view_change ≡ 68) × (longest_view_change ≡ 1320) × (shortest_new_view ≡ 48) × (longest_new_view ≡ 5032)

-- The VIEW-CHANGE stands whole in the buffer, and is no longer than one that is held may be.
use Rattle.std.proofs.Common.{rules, sym}
use Rattle.std.proofs.lemmas.List.{length-take-le}
use Rattle.replica.proofs.Tagging.{stands_inside, short_change}
use Rattle.replica.proofs.replica.Replica.leave.Goals as goal

pub hold-requires : goal.hold-requires
hold-requires g c = record { short = short_change _ c.issue-bytes.ensures.fits c.issue-bytes.result.0 (search rules) c.issue-bytes.new.out c.issue-bytes.result.1 c.issue-bytes.ensures.bytes }

pub slice_bounds-hold-end : goal.slice_bounds-hold-end
slice_bounds-hold-end g c = stands_inside _ c.issue-bytes.ensures.fits c.issue-bytes.result.0 (search rules) c.args.out.now c.issue-bytes.new.out c.issue-bytes.result.1 c.requires.room c.issue-bytes.ensures.bytes c.issue-bytes.ensures.written

pub slice_bounds-hold-end-2 : goal.slice_bounds-hold-end-2
slice_bounds-hold-end-2 g c =
    let inside = stands_inside _ c.issue-bytes.ensures.fits c.issue-bytes.result.0 (search rules) c.args.out.now c.issue-bytes.new.out c.issue-bytes.result.1 c.requires.room c.issue-bytes.ensures.bytes c.issue-bytes.ensures.written in
    sym (length-take-le c.issue-bytes.result.1 c.issue-bytes.new.out inside)

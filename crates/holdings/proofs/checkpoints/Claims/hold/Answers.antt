-- A sender with no place changes nothing.
use Rattle.std.proofs.Common.{length, ap, sym, arith}
use Rattle.std.proofs.lemmas.List.{set_past, length-map}
use Rattle.std.specs.Option.{option_map}
use Rattle.drafts.specs.Says.{kept_checkpoint}
use Rattle.holdings.proofs.checkpoints.Claims.hold.Goals as goal

pub returns-else-seat-lt5 : goal.returns-else-seat-lt5
returns-else-seat-lt5 c =
    let long = length-map c.self.inside.places (option_map kept_checkpoint) in
    sym (set_past c.args.self.now c.args.claim.draft.sender _ (omega (arith, long, ap length c.self.view_is, c.self.invariant, c.if-seat-lt5.false)))

-- Found as they are kept.
use Rattle.std.proofs.Common.{List, Option, find, ap, ◌∙◌}
use Rattle.std.specs.Option.{option_map}
use Rattle.parts.specs.Messages.{Checkpoint}
use Rattle.drafts.specs.Says.{kept_checkpoint}
use Rattle.protocol.specs.Standing.{held}
use Rattle.holdings.specs.Claimed.{settles}
use Rattle.holdings.proofs.Agreeing.{settling_found}
use Rattle.holdings.proofs.checkpoints.Claims.settling.Goals as goal

pub returns : goal.returns
returns c =
    ap (option_map kept_checkpoint) c.settling.ensures
    ∙ settling_found c.args.low.0 c.args.count c.args.quorum c.self.inside.places
    ∙ ap (λ (places : List (Option Checkpoint)). find (settles c.args.low.0 c.args.count c.args.quorum (held places)) (held places)) c.self.view_is

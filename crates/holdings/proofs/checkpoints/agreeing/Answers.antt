-- Counted as they are kept.
use Rattle.std.proofs.Common.{◌∙◌}
use Rattle.drafts.specs.Says.{kept_checkpoint}
use Rattle.holdings.proofs.Agreeing.{agreeing_counted}
use Rattle.holdings.proofs.checkpoints.agreeing.Goals as goal

pub returns : goal.returns
returns c = c.agreeing_count.ensures ∙ agreeing_counted (kept_checkpoint c.args.claim.now) c.args.places.now

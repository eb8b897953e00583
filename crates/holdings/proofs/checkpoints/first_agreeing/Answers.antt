-- One place more.
use Rattle.std.proofs.Common.{◌∙◌}
use Rattle.drafts.specs.Says.{kept_checkpoint}
use Rattle.holdings.proofs.Agreeing.{agreeing_next}
use Rattle.holdings.proofs.checkpoints.first_agreeing.Goals as goal

pub loop-place-preserved : goal.loop-place-preserved
loop-place-preserved c = record {
  few = c.add_agreeing.ensures.few;
  made =
      c.add_agreeing.ensures.made
      ∙ agreeing_next (kept_checkpoint c.args.claim.now) c.args.most c.loop-place.place-index c.args.places.now c.place-item.result _ c.loop-place-test.true c.place-item.is c.loop-place.invariant.made;
}

use Rattle.lat_top.specs.Asked.{kept_sample}
use Rattle.lat_top.proofs.Drawn.{drawn_more}
use Rattle.lat_top.proofs.sampling.plan_samples.Goals as goal

pub loop-preserved : goal.loop-preserved
loop-preserved c =
    drawn_more (kept_sample c.args.asked.now) c.loop.counter c.loop.samples
    c.plan_sample.new.samples c.loop.county c.plan_sample.new.county c.loop-test.true
    c.loop.invariant c.in_ok-plan_sample.ensures

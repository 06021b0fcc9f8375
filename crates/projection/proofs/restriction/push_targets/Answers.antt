use Rattle.std.proofs.Common.{arith}
use Rattle.lat_base.specs.Shape.{first_target}
use Rattle.projection.proofs.Cuts.{pushed}
use Rattle.projection.proofs.restriction.push_targets.Goals as goal

pub loop-t-preserved : goal.loop-t-preserved
loop-t-preserved c =
    pushed c.args.targets.now.items c.loop-t.targets.items c.push.new.self.items (first_target c.args.shape.now c.args.c) c.loop-t.t (omega (arith, c.loop-t.auto.t, c.first_of-t.ensures.value)) c.loop-t.invariant c.in_ok-push.ensures.items

use Rattle.std.proofs.Common.{◌≡◌, false}
use Rattle.close_rules.specs.declared.reason.Reason.TheVariants.{Pigeon}
use Rattle.close_rules.specs.Refutes.{refutes}
use Rattle.close_rules.proofs.Found.{one_more}
use Rattle.close_rules.proofs.finding.find_pigeon.Goals as goal

pub loop-c-preserved : goal.loop-c-preserved
loop-c-preserved c = one_more (λ k. refutes c.args.state.now (Pigeon k) ≡ false) c.loop-c.c c.loop-c.invariant (c.find_pigeon_at.ensures.none c.in_default.is c.loop-c.invariant)

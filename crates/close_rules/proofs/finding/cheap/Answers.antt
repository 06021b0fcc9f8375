use Rattle.close_rules.proofs.Found.{exactly}
use Rattle.close_rules.proofs.finding.cheap.Goals as goal

pub returns-clause-none : goal.returns-clause-none
returns-clause-none c = exactly c.args.state.now c.find_reason.result c.find_reason.ensures.none c.find_reason.ensures.some

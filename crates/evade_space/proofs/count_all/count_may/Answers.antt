use Rattle.std.proofs.Common.{sym, arith}
use Rattle.evade_space.proofs.KnownRows.{none_may}
use Rattle.evade_space.proofs.count_all.count_may.Goals as goal

pub returns-in-None : goal.returns-in-None
returns-in-None c = sym (none_may c.args.space.now.contests c.args.space.now.deck c.args.sources.now c.args.u (omega (arith, c.requires.image, c.requires.sources.long)) c.in-None.is)

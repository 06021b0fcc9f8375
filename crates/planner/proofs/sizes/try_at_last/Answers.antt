use Rattle.planner.proofs.sizes.try_at_last.Goals as goal

pub returns-in-None : goal.returns-in-None
returns-in-None c = (c.requires.spent, c.in_ok-proved.ensures.none (cc), c.requires.plain)

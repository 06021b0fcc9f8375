use Rattle.std.proofs.Common.{◌∙◌}
use Rattle.close_rules.proofs.AtLevel.{level_below}
use Rattle.close_rules.proofs.capacity.count_above.Goals as goal

pub returns : goal.returns
returns c = c.level.ensures ∙ level_below c.args.state.now.contests c.args.state.now.marks c.args.c c.args.votes c.requires.below

use Rattle.std.proofs.Common.{arith}
use Rattle.std.proofs.lemmas.Bool.Decides.{nat_tests}
use Rattle.state_rows.proofs.full_tree.DescendChooserFullTree.pick.Goals as goal

pub returns-else-state-space-clause-fits : goal.returns-else-state-space-clause-fits
returns-else-state-space-clause-fits c = (c.args.space.now.kids, grind (arith, nat_tests))

use Rattle.close_rules.proofs.Kids.{kid_partial, kid_undone, kid_solution, solution_in_kid}
use Rattle.close_rules.proofs.law.kids_share_solutions.Goals as goal

pub returns-clause-partial : goal.returns-clause-partial
returns-clause-partial c = kid_partial

pub returns-clause-undone : goal.returns-clause-undone
returns-clause-undone c = kid_undone

pub returns-clause-of_kid : goal.returns-clause-of_kid
returns-clause-of_kid c = kid_solution

pub returns-clause-in_kid : goal.returns-clause-in_kid
returns-clause-in_kid c = solution_in_kid

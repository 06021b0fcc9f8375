use Rattle.close_rules.proofs.Evaded.{evaded}
use Rattle.close_rules.proofs.ShownSolution.{shown_solution, shown_left}
use Rattle.close_rules.proofs.OwnBounds.{still_none}
use Rattle.close_rules.proofs.law.complete_is_judged.Goals as goal

pub returns-clause-solution : goal.returns-clause-solution
returns-clause-solution c = shown_solution

pub returns-clause-evaded : goal.returns-clause-evaded
returns-clause-evaded c = evaded

pub returns-clause-left : goal.returns-clause-left
returns-clause-left c = shown_left

pub returns-clause-own_bounds : goal.returns-clause-own_bounds
returns-clause-own_bounds c = still_none

use Rattle.deck_space.proofs.Values.{value_solves}
use Rattle.deck_space.proofs.law.shown_solution_is_value.Goals as goal

pub returns : goal.returns
returns c = value_solves

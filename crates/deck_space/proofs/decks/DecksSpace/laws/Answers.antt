use Rattle.deck_space.proofs.Laws.{keeps, is_empty, splits}
use Rattle.deck_space.proofs.decks.DecksSpace.laws.Goals as goal

pub returns-clause-keeps_own : goal.returns-clause-keeps_own
returns-clause-keeps_own c = keeps

pub returns-clause-closed_is_empty : goal.returns-clause-closed_is_empty
returns-clause-closed_is_empty c = is_empty

pub returns-clause-split : goal.returns-clause-split
returns-clause-split c = splits

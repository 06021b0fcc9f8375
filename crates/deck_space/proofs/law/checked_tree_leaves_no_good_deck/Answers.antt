use Rattle.deck_space.proofs.NoGoodDeck.{no_good_deck, no_good_below}
use Rattle.deck_space.proofs.law.checked_tree_leaves_no_good_deck.Goals as goal

pub returns-clause-of_size : goal.returns-clause-of_size
returns-clause-of_size c = no_good_deck

pub returns-clause-below : goal.returns-clause-below
returns-clause-below c = no_good_below

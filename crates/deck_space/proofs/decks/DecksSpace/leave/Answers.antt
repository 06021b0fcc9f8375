use Rattle.std.proofs.Common.{◌∙◌}
use Rattle.deck_space.proofs.Laws.{goes_back}
use Rattle.deck_space.proofs.decks.DecksSpace.leave.Goals as goal

pub returns : goal.returns
returns c = λ p label k is. c.undo.ensures ∙ goes_back p label k c.args.state.now is

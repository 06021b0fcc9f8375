use Rattle.readings.proofs.RobustDecks as lemmas
use Rattle.readings.proofs.robust.columns_differ.Goals as goal

pub returns : goal.returns
returns c = lemmas.columns_differ

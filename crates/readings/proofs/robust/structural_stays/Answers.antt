use Rattle.readings.proofs.RobustDecks as lemmas
use Rattle.readings.proofs.robust.structural_stays.Goals as goal

pub returns : goal.returns
returns c = lemmas.structural_stays

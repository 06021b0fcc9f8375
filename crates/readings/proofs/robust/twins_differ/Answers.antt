use Rattle.readings.proofs.ContestExchange as lemmas
use Rattle.readings.proofs.robust.twins_differ.Goals as goal

pub returns : goal.returns
returns c = lemmas.twins_differ

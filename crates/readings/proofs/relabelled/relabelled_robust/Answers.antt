use Rattle.readings.proofs.Relabelling as lemmas
use Rattle.readings.proofs.relabelled.relabelled_robust.Goals as goal

pub returns : goal.returns
returns c = lemmas.relabelled_robust

use Rattle.projection.proofs.GoodParts as lemmas
use Rattle.projection.proofs.law.good_restricted.Goals as goal

pub returns : goal.returns
returns c = lemmas.good_restricted

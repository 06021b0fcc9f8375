use Rattle.symmetry.proofs.CanonicalCopies.{good_copy}
use Rattle.symmetry.proofs.law.good_has_canonical.Goals as goal

pub returns : goal.returns
returns c = good_copy

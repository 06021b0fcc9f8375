use Rattle.symmetry.proofs.GoodDecks.{reordered_good, good_reordered, reordered_obeys, reordered_size}
use Rattle.symmetry.proofs.law.reordering_keeps_good.Goals as goal

pub returns-clause-good : goal.returns-clause-good
returns-clause-good c = λ contests rules deck result fits is. (good_reordered contests rules deck result fits is, reordered_good contests rules deck result is)

pub returns-clause-obeys : goal.returns-clause-obeys
returns-clause-obeys c = reordered_obeys

pub returns-clause-size : goal.returns-clause-size
returns-clause-size c = reordered_size

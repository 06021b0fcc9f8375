use Rattle.symmetry.proofs.PlainDeck.{plain_canonical, plain_obeys}
use Rattle.symmetry.proofs.law.plain_is_canonical.Goals as goal

pub returns-clause-canonical : goal.returns-clause-canonical
returns-clause-canonical c = plain_canonical

pub returns-clause-obeys : goal.returns-clause-obeys
returns-clause-obeys c = plain_obeys

use Rattle.deck_builder.proofs.WorkingRows.{not_over}
use Rattle.deck_builder.proofs.law.working_ballots_are_counted.Goals as goal

pub returns : goal.returns
returns c = λ p b contest fits h. not_over p b contest h (fits contest h)

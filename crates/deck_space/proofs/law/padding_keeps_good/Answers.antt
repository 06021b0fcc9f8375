use Rattle.deck_space.proofs.Padded.{blank_good}
use Rattle.deck_space.proofs.law.padding_keeps_good.Goals as goal

pub returns : goal.returns
returns c = blank_good

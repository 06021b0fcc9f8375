use Rattle.close_rules.proofs.Refuted.{refuted}
use Rattle.close_rules.proofs.law.refuted_is_empty.Goals as goal

pub returns : goal.returns
returns c = refuted

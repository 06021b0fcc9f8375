use Rattle.std.proofs.Common.{[], subst}
use Rattle.cert_stream.specs.declared.phase.Phase.{Phase}
use Rattle.cert_stream.specs.Stands.{StandsAt}
use Rattle.cert_stream.proofs.stream.ended.Goals as goal

pub unreachable-requires : goal.unreachable-requires
unreachable-requires c = c.in_default.not-Done c.requires.0 c.requires.1 c.requires.2

pub returns : goal.returns
returns c all stands = c.answer.ensures all (subst (λ (p : Phase). StandsAt p [] all) c.in-Done.is stands)

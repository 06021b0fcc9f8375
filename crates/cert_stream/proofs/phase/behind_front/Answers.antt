use Rattle.std.proofs.Common.{ℕ, None, subst}
use Rattle.std.specs.Prelude.{Option}
use Rattle.cert_stream.specs.Left.{deck_left}
use Rattle.cert_stream.specs.Phases.{head_of}
use Rattle.cert_stream.specs.Stands.{Reads}
use Rattle.cert_stream.proofs.phase.behind_front.Goals as goal

pub returns-in-None-clause-stands : goal.returns-in-None-clause-stands
returns-in-None-clause-stands c held all reads =
    let front = c.args.front in
    c.behind_deck.ensures.stands None held all c.in-None.is tt
    (subst (λ (best : Option ℕ). Reads all held (deck_left (head_of front) front.verdict best)) c.in-None.is reads)

use Rattle.std.proofs.Common.{[], refl, arith}
use Rattle.cert_stream.specs.Phases.{head_of}
use Rattle.cert_stream.proofs.Decks.{rows_end}
use Rattle.cert_stream.proofs.step.read_rows.Goals as goal

pub returns-clause-moves : goal.returns-clause-moves
returns-clause-moves c all stands =
    let front = c.args.front in
    c.in_ok-phase.ensures.stands c.args.bytes.now all stands.0
    (rows_end (head_of front) front.verdict c.args.deck c.args.j all c.args.bytes.now c.requires.1 (omega arith) stands.1)

pub returns-clause-tail : goal.returns-clause-tail
returns-clause-tail c = ([], refl)

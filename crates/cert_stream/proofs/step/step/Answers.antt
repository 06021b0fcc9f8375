use Rattle.std.proofs.Common.{◌≡◌, ◌+◌, ◌<◌, true, false, length, IfOk, Err, sym, subst}
use Rattle.std.specs.Prelude.{◌==◌}
use Rattle.cert_fields.specs.declared.fault.CertFault.TheVariants.{NotACertificate}
use Rattle.cert_stream.specs.declared.phase.Phase.{Phase}
use Rattle.cert_stream.specs.Phases.{IsPhase, rank, waits}
use Rattle.cert_stream.specs.Stands.{Moves, Refuses}
use Rattle.cert_stream.proofs.Ends.{late, some_left}
use Rattle.cert_stream.proofs.step.step.Goals as goal

pub returns-in-Start-clause-moves : goal.returns-in-Start-clause-moves
returns-in-Start-clause-moves c = subst (λ (p : Phase). IfOk c.read_front.result (λ x. Moves p c.args.bytes.now x.0 x.1.now)) (sym c.in-Start.is) c.read_front.ensures.moves

pub returns-in-Start-clause-shorter : goal.returns-in-Start-clause-shorter
returns-in-Start-clause-shorter c = subst (λ (p : Phase). IfOk c.read_front.result (λ x. length x.1.now + rank x.0 < length c.args.bytes.now + rank p)) (sym c.in-Start.is) c.read_front.ensures.shorter

pub returns-in-Start-clause-refused : goal.returns-in-Start-clause-refused
returns-in-Start-clause-refused c = subst (λ (p : Phase). c.read_front.result ≡ Err NotACertificate → Refuses p c.args.bytes.now) (sym c.in-Start.is) c.read_front.ensures.refused

pub read_rows-requires : goal.read_rows-requires
read_rows-requires c = subst IsPhase c.in-Rows.is c.requires.phase

pub returns-in-Rows-clause-moves : goal.returns-in-Rows-clause-moves
returns-in-Rows-clause-moves c = subst (λ (p : Phase). IfOk c.read_rows.result (λ x. Moves p c.args.bytes.now x.0 x.1.now)) (sym c.in-Rows.is) c.read_rows.ensures.moves

pub returns-in-Rows-clause-shorter : goal.returns-in-Rows-clause-shorter
returns-in-Rows-clause-shorter c = subst (λ (p : Phase). IfOk c.read_rows.result (λ x. length x.1.now + rank x.0 < length c.args.bytes.now + rank p)) (sym c.in-Rows.is) c.read_rows.ensures.shorter

pub returns-in-Rows-clause-refused : goal.returns-in-Rows-clause-refused
returns-in-Rows-clause-refused c = subst (λ (p : Phase). c.read_rows.result ≡ Err NotACertificate → Refuses p c.args.bytes.now) (sym c.in-Rows.is) c.read_rows.ensures.refused

pub read_robust-requires : goal.read_robust-requires
read_robust-requires c = subst IsPhase c.in-Robust.is c.requires.phase

pub returns-in-Robust-clause-moves : goal.returns-in-Robust-clause-moves
returns-in-Robust-clause-moves c = subst (λ (p : Phase). IfOk c.read_robust.result (λ x. Moves p c.args.bytes.now x.0 x.1.now)) (sym c.in-Robust.is) c.read_robust.ensures.moves

pub returns-in-Robust-clause-shorter : goal.returns-in-Robust-clause-shorter
returns-in-Robust-clause-shorter c = subst (λ (p : Phase). IfOk c.read_robust.result (λ x. length x.1.now + rank x.0 < length c.args.bytes.now + rank p)) (sym c.in-Robust.is) c.read_robust.ensures.shorter

pub returns-in-Robust-clause-refused : goal.returns-in-Robust-clause-refused
returns-in-Robust-clause-refused c = subst (λ (p : Phase). c.read_robust.result ≡ Err NotACertificate → Refuses p c.args.bytes.now) (sym c.in-Robust.is) c.read_robust.ensures.refused

pub read_contests-requires : goal.read_contests-requires
read_contests-requires c = subst IsPhase c.in-Contests.is c.requires.phase

pub returns-in-Contests-clause-moves : goal.returns-in-Contests-clause-moves
returns-in-Contests-clause-moves c = subst (λ (p : Phase). IfOk c.read_contests.result (λ x. Moves p c.args.bytes.now x.0 x.1.now)) (sym c.in-Contests.is) c.read_contests.ensures.moves

pub returns-in-Contests-clause-shorter : goal.returns-in-Contests-clause-shorter
returns-in-Contests-clause-shorter c = subst (λ (p : Phase). IfOk c.read_contests.result (λ x. length x.1.now + rank x.0 < length c.args.bytes.now + rank p)) (sym c.in-Contests.is) c.read_contests.ensures.shorter

pub returns-in-Contests-clause-refused : goal.returns-in-Contests-clause-refused
returns-in-Contests-clause-refused c = subst (λ (p : Phase). c.read_contests.result ≡ Err NotACertificate → Refuses p c.args.bytes.now) (sym c.in-Contests.is) c.read_contests.ensures.refused

pub read_lower-requires : goal.read_lower-requires
read_lower-requires c = subst IsPhase c.in-Lower.is c.requires.phase

pub returns-in-Lower-clause-moves : goal.returns-in-Lower-clause-moves
returns-in-Lower-clause-moves c = subst (λ (p : Phase). IfOk c.read_lower.result (λ x. Moves p c.args.bytes.now x.0 x.1.now)) (sym c.in-Lower.is) c.read_lower.ensures.moves

pub returns-in-Lower-clause-shorter : goal.returns-in-Lower-clause-shorter
returns-in-Lower-clause-shorter c = subst (λ (p : Phase). IfOk c.read_lower.result (λ x. length x.1.now + rank x.0 < length c.args.bytes.now + rank p)) (sym c.in-Lower.is) c.read_lower.ensures.shorter

pub returns-in-Lower-clause-refused : goal.returns-in-Lower-clause-refused
returns-in-Lower-clause-refused c = subst (λ (p : Phase). c.read_lower.result ≡ Err NotACertificate → Refuses p c.args.bytes.now) (sym c.in-Lower.is) c.read_lower.ensures.refused

pub returns-in-Done-clause-refused : goal.returns-in-Done-clause-refused
returns-in-Done-clause-refused c h =
    let some : (length c.args.bytes.now == 0) ≡ false = subst (λ (p : Phase). waits p (length c.args.bytes.now) true ≡ false) c.in-Done.is c.requires.some in
    subst (λ (p : Phase). Refuses p c.args.bytes.now) (sym c.in-Done.is) (late c.in-Done._front c.in-Done._fault c.args.bytes.now (some_left (length c.args.bytes.now) some))

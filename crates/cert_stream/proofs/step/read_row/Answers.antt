use Rattle.std.proofs.Common.{◌≡◌, ◌∙◌, ◌+◌, ◌-◌, ℕ, suc, List, Bool, length, take, Some, None, ap, sym, subst, arith, length-append}
use Rattle.std.proofs.lemmas.List.{length-set}
use Rattle.std.specs.Prelude.{slice_set}
use Rattle.lat_base.specs.Shape.{target_count}
use Rattle.lat_ballots.specs.Deck.{Ballots, ballot_at}
use Rattle.std.proofs.lemmas.Result.{err_from_is_err_and}
use Rattle.cert_fields.specs.declared.fault.CertFault.TheVariants.{NotACertificate}
use Rattle.cert_fields.specs.Rows.{row_at}
use Rattle.cert_fields.proofs.Contests.{given_none}
use Rattle.cert_stream.specs.Phases.{head_of}
use Rattle.cert_stream.specs.Stands.{Reads}
use Rattle.cert_stream.specs.Left.{rows_left}
use Rattle.cert_stream.proofs.Decks.{row_settles, behind_row, row_reads, row_done}
use Rattle.cert_stream.proofs.Settled.{reads_field, none_held, none_more}
use Rattle.cert_stream.proofs.step.read_row.Goals as goal

pub returns-in_err-rest-clause-refused : goal.returns-in_err-rest-clause-refused
returns-in_err-rest-clause-refused c h all stands =
    let p = err_from_is_err_and c.from_residual.result c.from_residual.ensures.1 in
    let e : c.in_err-rest.field-0.0 ≡ NotACertificate = cc in
    let front = c.args.front in
    let deck = c.args.deck in
    let held = c.args.bytes.now in
    let n = length deck.ballots - c.args.j - 1 in
    let settled = row_settles (target_count front.shape) (omega (arith, c.targets-targets.ensures.some, c.targets-targets.ensures.count)) c.targets-targets.ensures.shape.few_targets in
    let read = row_at (target_count front.shape) in
    let none : read held ≡ None = subst (λ (targets : ℕ). row_at targets held ≡ None) c.requires.phase.1 (given_none (λ x. x) c.in_err-rest.field-0.0 (row_at deck.targets held) c.in_err-rest.ensures.read e) in
    let reads = row_reads (head_of front) front.verdict deck.ballots c.args.j n all held (omega (arith, c.requires.row)) stands.1 in
    let next = behind_row (head_of front) front.verdict (take c.args.j deck.ballots) n in
    (none_held read next all held reads none, λ long more. none_more read next all held reads settled long none more)

pub returns-clause-moves : goal.returns-clause-moves
returns-clause-moves c all stands =
    let front = c.args.front in
    let deck = c.args.deck in
    let held = c.args.bytes.now in
    let rest = c.in_ok-rest.rest.now in
    let row = ballot_at c.row_of.new.deck c.args.j in
    let n = length deck.ballots - c.args.j - 1 in
    let e : length deck.ballots - c.args.j ≡ suc n = omega (arith, c.requires.row) in
    let settled = row_settles (target_count front.shape) (omega (arith, c.targets-targets.ensures.some, c.targets-targets.ensures.count)) c.targets-targets.ensures.shape.few_targets in
    let read = subst (λ (targets : ℕ). row_at targets held ≡ Some (row, rest)) c.requires.phase.1 c.in_ok-rest.ensures.read in
    let next = behind_row (head_of front) front.verdict (take c.args.j deck.ballots) n in
    let reads = row_reads (head_of front) front.verdict deck.ballots c.args.j n all held e stands.1 in
    let behind = reads_field (row_at (target_count front.shape)) next all held reads row rest settled read in
    let done = row_done (head_of front) front.verdict deck.ballots row c.args.j n all rest e behind in
    let new : c.row_of.new.deck.ballots ≡ slice_set deck.ballots c.args.j row = ap (λ (d : Ballots). d.ballots) c.row_of.ensures.deck in
    (stands.0 ∙ ap Some (sym (ap length new ∙ length-set deck.ballots c.args.j row)), subst (λ (bs : List (List Bool)). Reads all rest (rows_left (head_of front) front.verdict (take (c.args.j + 1) bs) (length bs - (c.args.j + 1)))) (sym new) done)

pub returns-clause-tail : goal.returns-clause-tail
returns-clause-tail c =
    let settled = row_settles c.args.deck.targets (omega (arith, c.targets-targets.ensures.some, c.targets-targets.ensures.count, c.requires.phase.1)) (omega (arith, c.targets-targets.ensures.shape.few_targets, c.requires.phase.1)) in
    let t = settled.tail c.args.bytes.now (ballot_at c.row_of.new.deck c.args.j) c.in_ok-rest.rest.now c.in_ok-rest.ensures.read in
    (t.0, t.1)

pub returns-clause-shorter : goal.returns-clause-shorter
returns-clause-shorter c =
    let settled = row_settles c.args.deck.targets (omega (arith, c.targets-targets.ensures.some, c.targets-targets.ensures.count, c.requires.phase.1)) (omega (arith, c.targets-targets.ensures.shape.few_targets, c.requires.phase.1)) in
    let t = settled.tail c.args.bytes.now (ballot_at c.row_of.new.deck c.args.j) c.in_ok-rest.rest.now c.in_ok-rest.ensures.read in
    omega (arith, ap length t.1, length-append t.0 c.in_ok-rest.rest.now, t.2)

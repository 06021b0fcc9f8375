use Rattle.std.proofs.Common.{◌≡◌, ℕ, List, length, Option, None, ap, arith, length-append}
use Rattle.std.specs.Borrow.{Bor}
use Rattle.std.proofs.lemmas.Result.{err_from_is_err_and}
use Rattle.cert_fields.specs.declared.fault.CertFault.TheVariants.{NotACertificate}
use Rattle.cert_fields.proofs.Contests.{given_none}
use Rattle.cert_stream.specs.Left.{Parts, front_at, deck_left, whole_at}
use Rattle.cert_stream.specs.declared.front.Front as front
use Rattle.cert_stream.specs.Phases.{head_of}
use Rattle.cert_stream.specs.Stands.{Reads}
use Rattle.cert_fields.specs.Reading.{◌>>=◌}
use Rattle.cert_stream.proofs.Fronts.{Front, front_settles, whole_is}
use Rattle.cert_stream.proofs.Settled.{reads_so, reads_field, none_held, none_more}
use Rattle.cert_stream.proofs.step.read_front.Goals as goal

abbrev behind : Front → List ℕ → Option Parts
behind f bytes = deck_left f.0.0 f.0.1 f.1 bytes

abbrev view : front.Front × Bor (List ℕ) → Front × List ℕ
view x = (((head_of x.0, x.0.verdict), x.0.best), x.1.now)

abbrev all_of : List ℕ → Option Parts
all_of bytes = front_at bytes >>= λ f. behind f.0 f.1

pub returns-in_err-front-clause-refused : goal.returns-in_err-front-clause-refused
returns-in_err-front-clause-refused c h all reads =
    let p = err_from_is_err_and c.from_residual.result c.from_residual.ensures.1 in
    let e : c.in_err-front.field-0.0 ≡ NotACertificate = cc in
    let held = c.args.bytes.now in
    let none : front_at held ≡ None = given_none view c.in_err-front.field-0.0 (front_at held) c.in_err-front.ensures.read e in
    let r : Reads all held all_of = reads_so all held whole_at all_of whole_is reads in
    (none_held front_at behind all held r none, λ long more. none_more front_at behind all held r front_settles long none more)

pub returns-clause-moves : goal.returns-clause-moves
returns-clause-moves c all reads =
    let held = c.args.bytes.now in
    let r : Reads all held all_of = reads_so all held whole_at all_of whole_is reads in
    c.in_ok-phase.ensures.stands c.in_ok-front.rest.now all
    (reads_field front_at behind all held r _ c.in_ok-front.rest.now front_settles c.in_ok-front.ensures.read)

pub returns-clause-tail : goal.returns-clause-tail
returns-clause-tail c = let t = front_settles.tail c.args.bytes.now _ c.in_ok-front.rest.now c.in_ok-front.ensures.read in (t.0, t.1)

pub returns-clause-shorter : goal.returns-clause-shorter
returns-clause-shorter c =
    let t = front_settles.tail c.args.bytes.now _ c.in_ok-front.rest.now c.in_ok-front.ensures.read in
    omega (arith, ap length t.1, length-append t.0 c.in_ok-front.rest.now, t.2, c.in_ok-phase.ensures.rank)

use Rattle.std.proofs.Common.{◌≡◌, [], Bool, false, length, length-append, ap, refl, sym, subst, ◌∙◌, Err, arith}
use Rattle.std.proofs.lemmas.Result.{err_from_is_err_and}
use Rattle.cert_fields.specs.declared.fault.CertFault.{CertFault}
use Rattle.cert_fields.specs.declared.fault.CertFault.TheVariants.{NotACertificate}
use Rattle.cert_stream.specs.Phases.{waits}
use Rattle.cert_stream.proofs.Ends.{not_ended, not_waiting, tail_on}
use Rattle.cert_stream.proofs.stream.read_on.Goals as goal

pub loop-alloc-init : goal.loop-alloc-init
loop-alloc-init c = record { phase = c.requires; moves = λ all stands. stands; tail = ([], refl) }

pub step-requires-clause-some : goal.step-requires-clause-some
step-requires-clause-some c =
    not_ended c.loop-alloc.phase (length c.loop-alloc.rest.now) c.args.ending (sym c.waits.ensures ∙ c.loop-alloc-test.true)

pub loop-alloc-smaller : goal.loop-alloc-smaller
loop-alloc-smaller c = c.in_ok-next.ensures.shorter

pub loop-alloc-preserved : goal.loop-alloc-preserved
loop-alloc-preserved c = record {
  phase = c.in_ok-next.ensures.phase;
  moves = λ all stands. c.in_ok-next.ensures.moves all (c.loop-alloc.invariant.moves all stands);
  tail = tail_on c.args.bytes.now c.loop-alloc.rest.now c.in_ok-next.after.now c.loop-alloc.invariant.tail c.in_ok-next.ensures.tail;
}

pub returns-in_err-next-clause-refused : goal.returns-in_err-next-clause-refused
returns-in_err-next-clause-refused c h all stands =
    let p = err_from_is_err_and c.from_residual.result c.from_residual.ensures.1 in
    let e : c.in_err-next.field-0.0 ≡ NotACertificate = cc in
    (c.in_err-next.ensures.refused (ap (λ (f : CertFault). Err f) e) all (c.loop-alloc.invariant.moves all stands)).0

pub returns-in_err-next-clause-for_good : goal.returns-in_err-next-clause-for_good
returns-in_err-next-clause-for_good c h ending all stands more =
    let p = err_from_is_err_and c.from_residual.result c.from_residual.ensures.1 in
    let e : c.in_err-next.field-0.0 ≡ NotACertificate = cc in
    let there = length c.loop-alloc.rest.now in
    let waiting : waits c.loop-alloc.phase there c.args.ending ≡ false = sym c.waits.ensures ∙ c.loop-alloc-test.true in
    let most = not_waiting c.loop-alloc.phase there (subst (λ (b : Bool). waits c.loop-alloc.phase there b ≡ false) ending waiting) in
    (c.in_err-next.ensures.refused (ap (λ (f : CertFault). Err f) e) all (c.loop-alloc.invariant.moves all stands)).1 most more

pub returns-clause-shorter : goal.returns-clause-shorter
returns-clause-shorter c = let t = c.loop-alloc.invariant.tail in omega (arith, ap length t.1, length-append t.0 c.loop-alloc.rest.now)

pub returns-clause-waits : goal.returns-clause-waits
returns-clause-waits c = sym c.waits.ensures ∙ c.loop-alloc-test.false

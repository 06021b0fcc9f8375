use Rattle.std.proofs.Common.{ℕ, List}
use Rattle.std.specs.Borrow.{Bor}
use Rattle.std.proofs.lemmas.Result.{err_from_is_err_and}
use Rattle.cert_fields.specs.Reading.{id_at, many_at}
use Rattle.cert_fields.proofs.Loop.{goes_on, stops}
use Rattle.cert_fields.proofs.head_reader.ids_of.Goals as goal

pub returns-in_err-id : goal.returns-in_err-id
returns-in_err-id c =
    let p = err_from_is_err_and c.from_residual.result c.from_residual.ensures.1 in
    rw (p.1, p.2) (stops id_at c.loop.ids c.args.count c.loop.counter c.loop.rest.now (many_at id_at c.args.count c.args.bytes.now) (λ (x : List ℕ × Bor (List ℕ)). (x.0, x.1.now)) (λ (x : List (List ℕ) × Bor (List ℕ)). (x.0, x.1.now)) c.in_err-id.field-0.0 c.loop-test.true c.in_err-id.ensures c.loop.invariant)

pub loop-preserved : goal.loop-preserved
loop-preserved c =
    rw c.in_ok-push.ensures.ok (goes_on id_at c.loop.ids c.args.count c.loop.counter c.loop.rest.now (many_at id_at c.args.count c.args.bytes.now) c.in_ok-id.id c.in_ok-id.after.now c.loop-test.true c.in_ok-id.ensures c.loop.invariant)

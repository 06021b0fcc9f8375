use Rattle.std.proofs.Common.{arith, length-append, ℕ, List, Vec, Global}
use Rattle.std.specs.Borrow.{Bor}
use Rattle.std.proofs.lemmas.Result.{err_from_is_err_and}
use Rattle.cert_fields.specs.Reading.{u16_at, many_at}
use Rattle.cert_fields.proofs.Loop.{goes_on, stops}
use Rattle.cert_fields.proofs.lists.numbers_of.Goals as goal

pub returns-in_err-number-clause-read : goal.returns-in_err-number-clause-read
returns-in_err-number-clause-read c =
    let p = err_from_is_err_and c.from_residual.result c.from_residual.ensures.1 in
    rw (p.1, p.2) (stops u16_at c.loop.numbers.items c.args.count c.loop.counter c.loop.rest.now (many_at u16_at c.args.count c.args.bytes.now) (λ (x : ℕ × Bor (List ℕ)). (x.0, x.1.now)) (λ (x : Vec ℕ Global × Bor (List ℕ)). (x.0.items, x.1.now)) c.in_err-number.field-0.0 c.loop-test.true c.in_err-number.ensures.read c.loop.invariant.left)

pub loop-preserved : goal.loop-preserved
loop-preserved c = record {
  left = rw c.in_ok-push.ensures.items (goes_on u16_at c.loop.numbers.items c.args.count c.loop.counter c.loop.rest.now (many_at u16_at c.args.count c.args.bytes.now) c.in_ok-number.number c.in_ok-number.after.now c.loop-test.true c.in_ok-number.ensures.read c.loop.invariant.left);
  count = rw c.in_ok-push.ensures.items (omega (arith, length-append {A = ℕ}, c.loop.invariant.count));
}

pub returns-clause-count : goal.returns-clause-count
returns-clause-count c = omega (arith, c.loop.invariant.count)

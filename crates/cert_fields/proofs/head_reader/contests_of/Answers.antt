use Rattle.std.proofs.Common.{◌≡◌, ◌∙◌, ◌++◌, ◌∷◌, [], ap, ℕ, List, Vec, Global, false, arith, length-append}
use Rattle.std.specs.Borrow.{Bor}
use Rattle.std.proofs.lemmas.Result.{err_from_is_err_and}
use Rattle.lat_base.specs.declared.contest.Contest.{Contest}
use Rattle.lat_base.specs.Names.{StyleNames, is_repeated}
use Rattle.std.proofs.Common.{Err}
use Rattle.lat_base.specs.declared.names.NameFault.{NameFault}
use Rattle.cert_fields.specs.Head.{contests_at}
use Rattle.cert_fields.proofs.Contests.{adds_on, repeats, breaks, never_true}
use Rattle.cert_fields.proofs.head_reader.contests_of.Goals as goal

pub returns-in_err-id-clause-read : goal.returns-in_err-id-clause-read
returns-in_err-id-clause-read c =
    let p = err_from_is_err_and c.from_residual.result c.from_residual.ensures.1 in
    rw (p.1, p.2) (breaks c.loop.names.contests c.loop.contests.items c.args.count c.loop.counter c.loop.rest.now (contests_at c.args.count [] [] c.args.bytes.now)
    (λ (x : (List ℕ × List (List ℕ) × Contest) × Bor (List ℕ)). ((record { id = x.0.0; targets = x.0.1 }, x.0.2), x.1.now)) (λ (x : StyleNames × Vec Contest Global × Bor (List ℕ)). ((x.0.contests, x.1.items), x.2.now))
    c.in_err-id.field-0.0 c.loop-test.true c.in_err-id.ensures c.loop.invariant.left)

pub returns-in-Err-Repeated-clause-read : goal.returns-in-Err-Repeated-clause-read
returns-in-Err-Repeated-clause-read c =
    repeats c.loop.names.contests c.loop.contests.items c.args.count c.loop.counter c.loop.rest.now (contests_at c.args.count [] [] c.args.bytes.now)
    (record { id = c.in_ok-id.id; targets = c.in_ok-id.targets }, c.in_ok-id.contest) c.in_ok-id.after.now c.loop-test.true c.in_ok-id.ensures (c.in-Err-Repeated.ensures.repeated.0 (ap (λ (f : NameFault). Err f) c.in-Err-Repeated.field-0-is)) c.loop.invariant.left

pub loop-preserved : goal.loop-preserved
loop-preserved c =
    let once : is_repeated c.loop.names.contests c.in_ok-id.id c.in_ok-id.targets ≡ false = never_true _ (λ r. let e = c.in-Ok.ensures.repeated.1 r in absurd (cc)) in
    let names : c.add.new.self.contests ≡ c.loop.names.contests ++ record { id = c.in_ok-id.id; targets = c.in_ok-id.targets } ∷ [] = ap (λ (n : StyleNames). n.contests) c.in-Ok.ensures.ok in
    record {
      left = rw (names, c.in_ok-push.ensures.items) (adds_on c.loop.names.contests c.loop.contests.items c.args.count c.loop.counter c.loop.rest.now (contests_at c.args.count [] [] c.args.bytes.now)
          (record { id = c.in_ok-id.id; targets = c.in_ok-id.targets }, c.in_ok-id.contest) c.in_ok-id.after.now c.loop-test.true c.in_ok-id.ensures once c.loop.invariant.left);
      style = ap (λ (n : StyleNames). n.style) c.in-Ok.ensures.ok ∙ c.loop.invariant.style;
      count = rw c.in_ok-push.ensures.items (omega (arith, length-append {A = Contest}, c.loop.invariant.count));
    }

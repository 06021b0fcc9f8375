use Rattle.std.proofs.Common.{◌≡◌, ℕ, List, Vec, Global, subst}
use Rattle.std.specs.Borrow.{Bor}
use Rattle.cert_fields.specs.declared.fault.CertFault.TheVariants.{NotACertificate}
use Rattle.cert_fields.specs.PartList.{part_at}
use Rattle.cert_fields.proofs.Contests.{given_none}
use Rattle.cert_fields.proofs.Exact.{begins, begins_none, no_longer}
use Rattle.cert_fields.proofs.PartLists.{part_exact}
use Rattle.cert_fields.proofs.part_list.take_contests.Goals as goal
use Rattle.cert_fields.proofs.part_list.take_contests.Goals.{In-Ok}
use Rattle.std.proofs.Common.{Some, None, length}

read : (c : In-Ok) → part_at (length c.args.shape.now) c.args.bytes.now
    ≡ Some (c.in-Ok.contests.items, c.in-Ok.rest.now)
read c = subst (λ (n : ℕ). part_at n c.args.bytes.now ≡ Some (c.in-Ok.contests.items, c.in-Ok.rest.now)) c.contests.ensures.count c.in-Ok.ensures

pub overflow_sub-result : goal.overflow_sub-result
overflow_sub-result c = no_longer (part_exact c.args.shape.now) c.args.bytes.now c.in-Ok.contests.items c.in-Ok.rest.now (read c)

pub returns-in-Ok-clause-found : goal.returns-in-Ok-clause-found
returns-in-Ok-clause-found c = begins (part_exact c.args.shape.now) c.args.bytes.now c.in-Ok.contests.items c.in-Ok.rest.now (read (goal.at.returns-in-Ok-clause-found c).In-Ok)

pub returns-in-Err-clause-refused : goal.returns-in-Err-clause-refused
returns-in-Err-clause-refused c h =
    let e : c.in-Err.fault ≡ NotACertificate = cc in
    begins_none (part_exact c.args.shape.now) c.args.bytes.now
    (subst (λ (n : ℕ). part_at n c.args.bytes.now ≡ None) c.contests.ensures.count (given_none (λ (x : Vec ℕ Global × Bor (List ℕ)). (x.0.items, x.1.now)) c.in-Err.fault (part_at c.contests.result c.args.bytes.now) c.in-Err.ensures e))

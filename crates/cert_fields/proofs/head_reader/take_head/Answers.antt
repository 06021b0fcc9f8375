use Rattle.std.proofs.Common.{◌≡◌, ℕ, List}
use Rattle.cert_fields.specs.declared.fault.CertFault.TheVariants.{NotACertificate}
use Rattle.cert_fields.proofs.Exact.{begins, begins_none, no_longer}
use Rattle.cert_fields.specs.Head.{head_at}
use Rattle.std.specs.Borrow.{Bor}
use Rattle.lat_base.specs.declared.contest.Contest.{Contest}
use Rattle.lat_base.specs.Names.{StyleNames}
use Rattle.lat_base.specs.Rules.{RuleSet}
use Rattle.cert_fields.proofs.Contests.{given_none}
use Rattle.cert_fields.proofs.Heads.{head_exact}
use Rattle.cert_fields.proofs.head_reader.take_head.Goals as goal

pub overflow_sub-result : goal.overflow_sub-result
overflow_sub-result c = no_longer head_exact c.args.bytes.now (record { names = c.in-Ok.names; contests = c.in-Ok.shape; rules = c.in-Ok.rules }) c.in-Ok.rest.now c.in-Ok.ensures

pub returns-in-Ok-clause-found : goal.returns-in-Ok-clause-found
returns-in-Ok-clause-found c = begins head_exact c.args.bytes.now (record { names = c.in-Ok.names; contests = c.in-Ok.shape; rules = c.in-Ok.rules }) c.in-Ok.rest.now c.in-Ok.ensures

pub returns-in-Err-clause-refused : goal.returns-in-Err-clause-refused
returns-in-Err-clause-refused c h =
    let e : c.in-Err.fault ≡ NotACertificate = cc in
    begins_none head_exact c.args.bytes.now (given_none (λ (x : StyleNames × List Contest × RuleSet × Bor (List ℕ)). (record { names = x.0; contests = x.1; rules = x.2 }, x.3.now)) c.in-Err.fault (head_at c.args.bytes.now) c.in-Err.ensures e)

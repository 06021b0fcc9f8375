use Rattle.std.proofs.Common.{◌≡◌, ap, List, Option, Err}
use Rattle.lat_base.specs.declared.contest.Contest.{Contest}
use Rattle.lat_base.specs.Names.{StyleNames}
use Rattle.lat_base.specs.Rules.{RuleSet}
use Rattle.cert_fields.specs.declared.fault.CertFault.{CertFault}
use Rattle.cert_fields.specs.declared.fault.CertFault.TheVariants.{NotACertificate}
use Rattle.cert_types.specs.declared.proved.Proved.{Proved}
use Rattle.cert_types.specs.declared.verdict.Verdict.{Verdict}
use Rattle.cert_types.specs.LowerPart.{LowerPart}
use Rattle.cert_format.proofs.Certs.{cert_found, cert_refused}
use Rattle.cert_format.proofs.cert_reader.read_cert.Goals as goal

pub new-requires : goal.new-requires
new-requires c =
    (cert_found c.args.bytes.now (record { names = c.in-Ok.names; contests = c.in-Ok.shape; rules = c.in-Ok.rules }, ((c.in-Ok.verdict, c.in-Ok.proved), c.in-Ok.lower)) c.in-Ok.ensures).0.kept

pub returns-in-Ok-clause-found : goal.returns-in-Ok-clause-found
returns-in-Ok-clause-found c =
    rw c.new.ensures (cert_found c.args.bytes.now (record { names = c.in-Ok.names; contests = c.in-Ok.shape; rules = c.in-Ok.rules }, ((c.in-Ok.verdict, c.in-Ok.proved), c.in-Ok.lower)) c.in-Ok.ensures)

pub returns-in-Err-clause-refused : goal.returns-in-Err-clause-refused
returns-in-Err-clause-refused c h =
    let e : c.in-Err.fault ≡ NotACertificate = cc in
    cert_refused (λ (x : StyleNames × List Contest × RuleSet × Verdict × Option Proved × Option LowerPart). (record { names = x.0; contests = x.1; rules = x.2 }, ((x.3, x.4), x.5)))
    (Err c.in-Err.fault) c.args.bytes.now c.in-Err.ensures (ap (λ (f : CertFault). Err f) e)

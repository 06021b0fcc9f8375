use Rattle.std.proofs.Common.{◌≡◌, ap, ℕ, List, Option, Err}
use Rattle.lat_base.specs.declared.contest.Contest.{Contest}
use Rattle.lat_base.specs.Names.{StyleNames}
use Rattle.lat_base.specs.Rules.{RuleSet}
use Rattle.cert_types.specs.declared.license.License.{License}
use Rattle.cert_fields.specs.declared.fault.CertFault.{CertFault}
use Rattle.cert_fields.specs.declared.fault.CertFault.TheVariants.{NotACertificate}
use Rattle.cert_types.specs.declared.proved.Proved.{Proved}
use Rattle.cert_types.specs.LowerPart.{LowerPart}
use Rattle.cert_format.proofs.Opens.{open_found, open_refused}
use Rattle.cert_format.proofs.open_reader.read_open.Goals as goal

pub new-requires : goal.new-requires
new-requires c =
    (open_found c.args.bytes.now (record { names = c.in-Ok.names; contests = c.in-Ok.shape; rules = c.in-Ok.rules }, ((((c.in-Ok.max, c.in-Ok.from), c.in-Ok.best), c.in-Ok.lower), c.in-Ok.license)) c.in-Ok.ensures).0.kept

pub returns-in-Ok-clause-found : goal.returns-in-Ok-clause-found
returns-in-Ok-clause-found c =
    rw c.new.ensures (open_found c.args.bytes.now (record { names = c.in-Ok.names; contests = c.in-Ok.shape; rules = c.in-Ok.rules }, ((((c.in-Ok.max, c.in-Ok.from), c.in-Ok.best), c.in-Ok.lower), c.in-Ok.license)) c.in-Ok.ensures)

pub returns-in-Err-clause-refused : goal.returns-in-Err-clause-refused
returns-in-Err-clause-refused c h =
    let e : c.in-Err.fault ≡ NotACertificate = cc in
    open_refused (λ (x : StyleNames × List Contest × RuleSet × ℕ × ℕ × Option Proved × Option LowerPart × License). (record { names = x.0; contests = x.1; rules = x.2 }, ((((x.3, x.4), x.5), x.6), x.7)))
    (Err c.in-Err.fault) c.args.bytes.now c.in-Err.ensures (ap (λ (f : CertFault). Err f) e)

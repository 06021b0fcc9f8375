use Rattle.cert_check.proofs.Faults.{parts_faulty, open_faulty}
use Rattle.cert_check.proofs.law.faults_exclude_holding.Goals as goal

pub returns-clause-cert : goal.returns-clause-cert
returns-clause-cert c = λ cert part i fault holds.
    parts_faulty cert.contests cert.rules cert.proved cert.lower part i fault holds

pub returns-clause-open : goal.returns-clause-open
returns-clause-open c = λ file part i fault holds. open_faulty file part i fault holds

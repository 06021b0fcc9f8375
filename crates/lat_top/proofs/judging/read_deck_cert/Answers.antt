use Rattle.cert_types.specs.CertValue.{CertValue}
use Rattle.lat_top.specs.CertFile.{cert_in_file}
use Rattle.lat_top.specs.JudgeJob.{with_deck}
use Rattle.lat_top.proofs.Scripts.{reads_judged}
use Rattle.lat_top.proofs.judging.read_deck_cert.Goals as goal

pub returns-clause-reads : goal.returns-clause-reads
returns-clause-reads g c =
    reads_judged (cert_in_file c.args.name.now) (λ (cert : CertValue). with_deck cert cert.proved)
    _ _ c.in_ok-cert.cert _ c.in_ok-cert.ensures c.with_deck.ensures.said

use Rattle.std.proofs.Common.{ℕ, List}
use Rattle.cert_types.specs.CertValue.{CertValue}
use Rattle.lat_top.specs.Asked.{kept_judge}
use Rattle.lat_top.specs.JudgeJob.{JudgeInputs, deck_cert_in_file, inputs_of, judge_reads}
use Rattle.lat_top.specs.JudgeJob.{report_in_file}
use Rattle.lat_top.specs.Script.{Script, Give, ◌>>=◌}
use Rattle.lat_top.proofs.Scripts.{reads_err, reads_then, reads_given, reads_handed}
use Rattle.lat_top.proofs.judging.read_judgeable.Goals as goal

-- what is read once there is a certificate
abbrev next : List ℕ → CertValue → Script JudgeInputs
next name cert = report_in_file cert name >>= λ reported. Give (inputs_of cert reported)

pub returns-in_err-cert-clause-reads : goal.returns-in_err-cert-clause-reads
returns-in_err-cert-clause-reads g c =
    let asked = kept_judge c.args.asked.now in
    reads_handed (judge_reads asked) _ _ c.in_err-cert.field-0.0 _
    c.from_residual.ensures.1
    (reads_err (deck_cert_in_file asked.cert) (next asked.report) _ _ _
    c.in_err-cert.ensures.reads)

pub returns-in_err-reported-clause-reads : goal.returns-in_err-reported-clause-reads
returns-in_err-reported-clause-reads g c =
    let asked = kept_judge c.args.asked.now in
    let cert = c.in_ok-cert.cert in
    reads_handed (judge_reads asked) _ _ c.in_err-reported.field-0.0 _
    c.from_residual-in_err-reported.ensures.1
    (reads_then (deck_cert_in_file asked.cert) (next asked.report) _ _ _ cert _
    c.in_ok-cert.ensures.reads
    (reads_err (report_in_file cert asked.report) (λ reported. Give (inputs_of cert reported)) _ _ _
    c.in_err-reported.ensures.reads))

pub returns-clause-reads : goal.returns-clause-reads
returns-clause-reads g c =
    let asked = kept_judge c.args.asked.now in
    let cert = c.in_ok-cert.cert in
    reads_then (deck_cert_in_file asked.cert) (next asked.report) _ _ _ cert _
    c.in_ok-cert.ensures.reads
    (reads_given (report_in_file cert asked.report) (inputs_of cert) _ _
    c.in_ok-reported.reported.items c.in_ok-reported.ensures.reads)

use Rattle.std.proofs.Common.{ℕ, List}
use Rattle.cert_types.specs.CertValue.{CertValue}
use Rattle.lat_top.specs.declared.asked_style.AskedStyle.{AskedStyle}
use Rattle.lat_top.specs.AskedStyle.{style_in_file}
use Rattle.lat_top.specs.CertFile.{cert_in_file}
use Rattle.lat_top.specs.MatchJob.{IsOfStyle, match_reads}
use Rattle.lat_top.specs.Script.{Script, ◌>>=◌, find}
use Rattle.lat_top.specs.Asked.{kept_match}
use Rattle.lat_top.proofs.Scripts.{reads_err, reads_found, reads_then, reads_handed}
use Rattle.lat_top.proofs.matching.read_matching.Goals as goal

-- what is read once there is a style
abbrev next : List ℕ → AskedStyle → Script CertValue
next name style = cert_in_file name >>= λ cert. find (IsOfStyle style cert)

pub returns-in_err-style : goal.returns-in_err-style
returns-in_err-style g c =
    let asked = kept_match c.args.asked.now in
    reads_handed (match_reads asked) _ _ c.in_err-style.field-0.0 _
    c.from_residual.ensures.1
    (reads_err (style_in_file asked.definition asked.style) (next asked.cert) _ _ _
    c.in_err-style.ensures.reads)

pub returns-in_err-cert : goal.returns-in_err-cert
returns-in_err-cert g c =
    let asked = kept_match c.args.asked.now in
    let style = c.in_ok-style.style in
    reads_handed (match_reads asked) _ _ c.in_err-cert.field-0.0 _
    c.from_residual-in_err-cert.ensures.1
    (reads_then (style_in_file asked.definition asked.style) (next asked.cert) _ _ _ style _
    c.in_ok-style.ensures.reads
    (reads_err (cert_in_file asked.cert) (λ cert. find (IsOfStyle style cert)) _ _ _
    c.in_err-cert.ensures))

pub returns : goal.returns
returns g c =
    let asked = kept_match c.args.asked.now in
    let style = c.in_ok-style.style in
    reads_then (style_in_file asked.definition asked.style) (next asked.cert) _ _ _ style _
    c.in_ok-style.ensures.reads
    (reads_found (cert_in_file asked.cert) (IsOfStyle style) _ _ c.in_ok-cert.cert _
    c.in_ok-cert.ensures c.compared.ensures)

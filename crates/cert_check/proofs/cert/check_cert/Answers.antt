use Rattle.std.proofs.Common.{Ok, ap}
use Rattle.cert_check.proofs.Claims.{found_there, cert_claim}
use Rattle.cert_check.proofs.cert.check_cert.Goals as goal

pub returns-in-None-clause-claim : goal.returns-in-None-clause-claim
returns-in-None-clause-claim c = λ verdict e.
    let cert = c.args.cert.now in
    cert_claim cert c.verdict-verdict.ensures.kept
    (found_there c.shape-shape.result.now cert.contests c.rules.result cert.rules _ cert.proved _ cert.lower c.in_ok-part.field-0
    c.contests-contests.ensures.shape c.shape-shape.ensures c.rules.ensures c.proved.ensures c.lower.ensures
    c.in-None.is c.in_ok-part.ensures.answer (c.in_ok-part.ensures.good (ap Ok c.in-None.is)))

pub returns-in-None-clause-good : goal.returns-in-None-clause-good
returns-in-None-clause-good c = λ verdict e.
    let cert = c.args.cert.now in
    (found_there c.shape-shape.result.now cert.contests c.rules.result cert.rules _ cert.proved _ cert.lower c.in_ok-part.field-0
    c.contests-contests.ensures.shape c.shape-shape.ensures c.rules.ensures c.proved.ensures c.lower.ensures
    c.in-None.is c.in_ok-part.ensures.answer (c.in_ok-part.ensures.good (ap Ok c.in-None.is))).good

use Rattle.std.proofs.Common.{Ok, ap}
use Rattle.cert_check.proofs.Claims.{found_there, none_below, nothing}
use Rattle.cert_check.proofs.open_file.check_open_file.Goals as goal

pub returns-in-None-clause-none : goal.returns-in-None-clause-none
returns-in-None-clause-none c = λ e.
    let file = c.args.file.now in
    let sound = nothing c.in_ok-fault.fault c.is_some.result c.is_some.ensures c.if-is_some.false in
    none_below file c.from-from.ensures.kept
    (found_there c.shape-shape.result.now file.contests c.rules-rules.result file.rules _ file.best _ file.lower c.in_ok-fault.fault
    c.contests-contests.ensures.shape c.shape-shape.ensures c.rules-rules.ensures c.best.ensures c.lower.ensures
    sound c.in_ok-fault.ensures.answer (c.in_ok-fault.ensures.good (ap Ok sound)))

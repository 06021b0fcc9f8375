use Rattle.lat_top.specs.Asked.{kept_check}
use Rattle.lat_top.specs.CheckJob.{check_job}
use Rattle.lat_top.proofs.Calls.{answers_err}
use Rattle.lat_top.proofs.check.check.Goals as goal

pub returns-in_err-head : goal.returns-in_err-head
returns-in_err-head g c =
    answers_err (check_job (kept_check c.args.asked.now)) _ _ c.in_err-head.field-0.0 _
    c.from_residual.ensures.1 c.in_err-head.ensures

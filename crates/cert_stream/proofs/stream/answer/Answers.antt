use Rattle.std.proofs.Common.{sym, subst}
use Rattle.cert_types.specs.declared.checked.Checked.{Checked}
use Rattle.cert_stream.specs.Answer.{IsAnswer}
use Rattle.cert_stream.proofs.Ends.{answers, head_at_end}
use Rattle.cert_stream.proofs.stream.answer.Goals as goal

pub returns : goal.returns
returns c all stands =
    let front = c.args.front in
    let targets = c.targets.result in
    subst (λ (checked : Checked). IsAnswer all (head_at_end front targets) checked) (sym c.checked_of-checked.ensures)
    (answers front c.args.fault targets all c.targets.ensures.count stands)

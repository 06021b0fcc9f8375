use Rattle.std.proofs.Common.{ℕ, nat_lt, ap, ◌∙◌, arith}
use Rattle.lat_base.specs.Shape.{target_count}
use Rattle.close_rules.proofs.FewColumns.{many_columns}
use Rattle.close_rules.proofs.columns.has_few_columns.Goals as goal

pub returns-else-ballots-lt8 : goal.returns-else-ballots-lt8
returns-else-ballots-lt8 c =
    let count = c.ballots-ballots.ensures.count in
    ap (λ (k : ℕ). nat_lt k 8) count
    ∙ many_columns c.args.state.now.ballots (target_count c.args.state.now.contests) (omega (arith, c.if-ballots-lt8.false, count)) c.ballots-ballots.ensures.partial.shape.few_targets

use Rattle.std.proofs.Common.{◌∙◌, List, ap}
use Rattle.lat_base.specs.declared.contest.Contest.{Contest}
use Rattle.lat_base.specs.Shape.{contest_at}
use Rattle.deck_state.specs.Tally.{level_of}
use Rattle.close_rules.proofs.AtLevel.{level_at_limit}
use Rattle.close_rules.proofs.ballots.count_overvoted.Goals as goal

pub returns : goal.returns
returns c =
    let contests = c.args.state.now.contests in
    c.level.ensures
    ∙ (ap (λ (contest : Contest). level_of contests c.args.state.now.marks c.args.c contest.limit) (c.contest.ensures ∙ ap (λ (cs : List Contest). contest_at cs c.args.c) c.shape.ensures.value)
    ∙ level_at_limit contests c.args.state.now.marks c.args.c)

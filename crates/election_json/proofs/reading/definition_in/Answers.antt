use Rattle.serde_json.specs.View.{view}
use Rattle.election_json.specs.Kept.{kept_styles}
use Rattle.election_json.proofs.StyleLimits.{definition_limits}
use Rattle.election_json.proofs.reading.definition_in.Goals as goal

pub invariant_of-result : goal.invariant_of-result
invariant_of-result c =
    let contests = c.in_ok-contests.contests in
    (definition_limits c.in_ok-rules.rules contests (view c.in_ok-top.top.now) (kept_styles contests c.in_ok-styles.styles.items) c.in_ok-rules.ensures.limits c.in_ok-contests.ensures.limits c.in_ok-styles.ensures.gives, c.in_ok-styles.ensures.within)

pub returns-clause-limits : goal.returns-clause-limits
returns-clause-limits c =
    let contests = c.in_ok-contests.contests in
    definition_limits c.in_ok-rules.rules contests (view c.in_ok-top.top.now) (kept_styles contests c.in_ok-styles.styles.items) c.in_ok-rules.ensures.limits c.in_ok-contests.ensures.limits c.in_ok-styles.ensures.gives

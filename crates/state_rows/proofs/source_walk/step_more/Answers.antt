use Rattle.std.proofs.Common.{List, length, ap, ◌∙◌}
use Rattle.std.proofs.lemmas.List.FromFn.{length-map-range_with_len}
use Rattle.lat_base.specs.Shape.{target_count}
use Rattle.lat_base.specs.declared.contest.Contest.{Contest}
use Rattle.evade_space.specs.Counts.{Counts, taken_in}
use Rattle.evade_space.specs.Votes.{may_vote, must_vote}
use Rattle.state_rows.proofs.source_walk.step_more.Goals as goal

pub and-requires-clause-taken : goal.and-requires-clause-taken
and-requires-clause-taken c =
    let sought = c.args.space.now in
    ap (λ (kept : Counts). length kept.taken) (c.counts.ensures.counts ∙ c.requires.own.kept)
    ∙ length-map-range_with_len (taken_in sought.contests sought.deck c.args.state.now.sources) 0 (length sought.contests)
    ∙ ap (λ (contests : List Contest). length contests) c.requires.style

pub and-requires-clause-may : goal.and-requires-clause-may
and-requires-clause-may c =
    let sought = c.args.space.now in
    let sources = c.args.state.now.sources in
    ap (λ (kept : Counts). length kept.may) (c.counts.ensures.counts ∙ c.requires.own.kept)
    ∙ length-map-range_with_len (may_vote sought.contests sought.deck sources) 0 (length sources)
    ∙ c.requires.own.long ∙ ap target_count c.requires.style

pub and-requires-clause-must : goal.and-requires-clause-must
and-requires-clause-must c =
    let sought = c.args.space.now in
    let sources = c.args.state.now.sources in
    ap (λ (kept : Counts). length kept.must) (c.counts.ensures.counts ∙ c.requires.own.kept)
    ∙ length-map-range_with_len (must_vote sought.contests sought.deck sources) 0 (length sources)
    ∙ c.requires.own.long ∙ ap target_count c.requires.style

use Rattle.std.proofs.Common.{◌<◌, length, map, ap, sym, ◌∙◌, arith}
use Rattle.lat_base.specs.declared.contest.Contest.{Contest}
use Rattle.lat_base.specs.Shape.{target_count}
use Rattle.lat_base.specs.Tally.{reading}
use Rattle.deck_state.specs.declared.mark.Mark.TheVariants.{Marked}
use Rattle.deck_state.specs.Mark.{is_marked}
use Rattle.close_rules.proofs.RowVotes.{source_in, read_mark, vote_is, no_vote}
use Rattle.close_rules.proofs.kept.votes_read.Goals as goal

pub bounds-row-source : goal.bounds-row-source
bounds-row-source c =
    source_in (target_count c.args.shape.now) c.args.s.now c.args.row.now c.args.u c.source.result c.len-sources.ensures.sources c.requires.targets c.requires.long c.requires.target c.source.ensures

pub returns-then-is_marked : goal.returns-then-is_marked
returns-then-is_marked c =
    let place = source_in (target_count c.args.shape.now) c.args.s.now c.args.row.now c.args.u c.source.result c.len-sources.ensures.sources c.requires.targets c.requires.long c.requires.target c.source.ensures in
    let long : c.args.u < length c.args.s.now = omega (arith, c.requires.target, c.requires.targets) in
    let mark = read_mark c.args.s.now c.args.row.now c.args.u c.source.result Marked long place c.source.ensures ∙ (sym c.is_marked.ensures ∙ c.if-is_marked.true) in
    vote_is c.args.shape.now (reading (map is_marked c.args.row.now) c.args.s.now) c.args.u c.args.c c.contest.result.limit c.count_read.result c.requires.of mark (ap (λ (x : Contest). x.limit) c.contest.ensures) c.count_read.ensures

pub returns-else-is_marked : goal.returns-else-is_marked
returns-else-is_marked c =
    let place = source_in (target_count c.args.shape.now) c.args.s.now c.args.row.now c.args.u c.source.result c.len-sources.ensures.sources c.requires.targets c.requires.long c.requires.target c.source.ensures in
    let long : c.args.u < length c.args.s.now = omega (arith, c.requires.target, c.requires.targets) in
    let mark = read_mark c.args.s.now c.args.row.now c.args.u c.source.result Marked long place c.source.ensures ∙ (sym c.is_marked.ensures ∙ c.if-is_marked.false) in
    no_vote c.args.shape.now (reading (map is_marked c.args.row.now) c.args.s.now) c.args.u c.is_marked.result mark c.if-is_marked.false

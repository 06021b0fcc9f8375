use Rattle.std.proofs.Common.{◌<◌, ◌∙◌, length, sym, arith}
use Rattle.evade_space.proofs.RightVotes.{right_votes}
use Rattle.evade_space.proofs.KnownRows.{none_may, none_must}
use Rattle.evade_space.proofs.recount.votes_for.Goals as goal

pub returns-in-Some : goal.returns-in-Some
returns-in-Some c =
    right_votes c.args.space.now c.args.state.now.sources c.args.u c.in-Some.t c.args.c c.args.sets.now c.column-column.result.now c.count_common.result c.count_common-in-Some.result c.requires.marks.are c.requires.image (sym c.source.ensures ∙ c.in-Some.is) c.requires.contest
    c.requires.sets c.column-column.ensures c.count_common.ensures.ones c.count_common-in-Some.ensures.ones

pub returns-in-None : goal.returns-in-None
returns-in-None c =
    let inside : c.args.u < length c.args.state.now.sources = omega (arith, c.requires.image, c.requires.marks.are.long) in
    let none = sym c.source.ensures ∙ c.in-None.is in
    record {
      are_possible = sym (none_may c.args.space.now.contests c.args.space.now.deck c.args.state.now.sources c.args.u inside none);
      are_sure = sym (none_must c.args.space.now.contests c.args.space.now.deck c.args.state.now.sources c.args.u inside none);
    }

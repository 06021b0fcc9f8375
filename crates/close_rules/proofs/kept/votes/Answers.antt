use Rattle.std.proofs.Common.{map, ap, sym, ◌∙◌, arith, false}
use Rattle.std.proofs.lemmas.List.{get_or-map}
use Rattle.lat_base.specs.declared.contest.Contest.{Contest}
use Rattle.deck_state.specs.declared.mark.Mark.TheVariants.{Marked}
use Rattle.deck_state.specs.Mark.{is_marked}
use Rattle.close_rules.proofs.RowVotes.{row_marks, vote_is}
use Rattle.close_rules.proofs.kept.votes.Goals as goal

pub returns-then-is_marked : goal.returns-then-is_marked
returns-then-is_marked c =
    let mark = get_or-map is_marked c.args.row.now c.args.u Marked false (omega (arith, c.requires.target, c.requires.long)) ∙ (sym c.is_marked.ensures ∙ c.if-is_marked.true) in
    vote_is c.args.shape.now (map is_marked c.args.row.now) c.args.u c.args.c c.contest.result.limit c.marked_in.result c.requires.of mark (ap (λ (x : Contest). x.limit) c.contest.ensures)
    (c.marked_in.ensures ∙ sym (row_marks c.args.shape.now c.args.row.now c.args.c))

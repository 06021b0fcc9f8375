use Rattle.std.proofs.Common.{◌≡◌, List, take, count_by, map, ap, ◌∙◌, arith}
use Rattle.std.specs.Prelude.{◌==◌}
use Rattle.std.proofs.lemmas.List.{take_all}
use Rattle.lat_base.specs.Tally.{votes_for, reading, total, own_total}
use Rattle.deck_state.specs.declared.mark.Mark.{Mark}
use Rattle.deck_state.specs.Mark.{is_marked}
use Rattle.deck_state.specs.Shown.{shown}
use Rattle.close_rules.proofs.RowVotes.{shown_total, shown_own}
use Rattle.close_rules.proofs.kept.keeps_total.Goals as goal

pub returns : goal.returns
returns c =
    let p = c.args.state.now in
    let is = c.ballots-j-end.ensures.partial in
    let all : take c.loop-j.j p.marks ≡ p.marks = take_all c.loop-j.j p.marks (omega (arith, is.height, c.loop-j-test.false, c.ballots-j-end.ensures.count)) in
    let read : c.loop-j.total ≡ total p.contests (shown p) c.args.s.now c.args.u =
    c.loop-j.invariant.total ∙ (ap (λ (rows : List (List Mark)). count_by (λ row. votes_for p.contests (reading (map is_marked row) c.args.s.now) c.args.u) rows) all ∙ shown_total p c.args.s.now c.args.u) in
    let own : c.loop-j.own ≡ own_total p.contests (shown p) c.args.u =
    c.loop-j.invariant.own ∙ (ap (λ (rows : List (List Mark)). count_by (λ row. votes_for p.contests (map is_marked row) c.args.u) rows) all ∙ shown_own p c.args.u is) in
    λ i. read i == own i

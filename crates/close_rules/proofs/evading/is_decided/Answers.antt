use Rattle.std.proofs.Common.{◌≡◌, ◌≢◌, not, [], sym, ◌∙◌, arith}
use Rattle.std.specs.List.{list_all}
use Rattle.deck_state.specs.Mark.{is_undecided}
use Rattle.deck_state.specs.PartialDeck.{row_at}
use Rattle.deck_state.specs.Votes.{marks_in, marked_in, possible_in}
use Rattle.close_rules.proofs.DecidedRows.{all_decided, some_undecided, row_passes, row_fails}
use Rattle.close_rules.proofs.evading.is_decided.Goals as goal

pub returns-then-marked_in-possible_in : goal.returns-then-marked_in-possible_in
returns-then-marked_in-possible_in c =
    let p = c.args.state.now in
    let marked : c.marked_in.result ≡ marked_in p.contests (row_at p c.loop-j.j) c.args.c = c.marked_in.ensures in
    let possible : c.possible_in.result ≡ possible_in p.contests (row_at p c.loop-j.j) c.args.c = c.possible_in.ensures in
    let other : marked_in p.contests (row_at p c.loop-j.j) c.args.c ≢ possible_in p.contests (row_at p c.loop-j.j) c.args.c = λ e. c.if-marked_in-possible_in.true (marked ∙ (e ∙ sym possible)) in
    let here = some_undecided (marks_in p.contests (row_at p c.loop-j.j) c.args.c) other in
    sym (row_fails (λ row. list_all (λ mark. not (is_undecided mark)) (marks_in p.contests row c.args.c)) p.marks c.loop-j.j [] (omega (arith, c.loop-j-test.true, c.ballots-j-end.ensures.count, c.ballots-j-end.ensures.partial.height)) here) ∙ c.loop-j.invariant

pub loop-j-preserved : goal.loop-j-preserved
loop-j-preserved c =
    let p = c.args.state.now in
    let marked : c.marked_in.result ≡ marked_in p.contests (row_at p c.loop-j.j) c.args.c = c.marked_in.ensures in
    let possible : c.possible_in.result ≡ possible_in p.contests (row_at p c.loop-j.j) c.args.c = c.possible_in.ensures in
    let here = all_decided (marks_in p.contests (row_at p c.loop-j.j) c.args.c) (sym marked ∙ (c.if-marked_in-possible_in.false ∙ possible)) in
    row_passes (λ row. list_all (λ mark. not (is_undecided mark)) (marks_in p.contests row c.args.c)) p.marks c.loop-j.j [] (omega (arith, c.loop-j-test.true, c.ballots-j-end.ensures.count, c.ballots-j-end.ensures.partial.height)) here ∙ c.loop-j.invariant

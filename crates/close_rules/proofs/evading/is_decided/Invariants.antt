use Rattle.std.proofs.Common.{◌≡◌, drop, not}
use Rattle.std.specs.List.{list_all}
use Rattle.deck_state.specs.Mark.{is_undecided}
use Rattle.deck_state.specs.Votes.{marks_in}
use Rattle.close_rules.specs.Evading.{is_decided}
use Rattle.close_rules.proofs.evading.is_decided.Given as goal

-- each mark is decided where those of the ballots from here on are
abbrev pub invariant-loop-j : goal.invariant-loop-j
invariant-loop-j l = list_all (λ row. list_all (λ mark. not (is_undecided mark)) (marks_in l.state.contests row l.c)) (drop l.j l.state.marks) ≡ is_decided l.state l.c

use Rattle.std.proofs.Common.{◌≡◌, ◌-◌, length}
use Rattle.std.specs.List.{list_all, range_with_len}
use Rattle.close_rules.specs.Evading.{keeps_contest}
use Rattle.close_rules.proofs.evading.keeps_contests.Given as goal

-- the contests are kept where those from here on are
abbrev pub invariant-loop-c : goal.invariant-loop-c
invariant-loop-c l = list_all (keeps_contest l.state l.s) (range_with_len l.c (length l.state.contests - l.c)) ≡ list_all (keeps_contest l.state l.s) (range_with_len 0 (length l.state.contests))

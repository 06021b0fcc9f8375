use Rattle.close_rules.proofs.finding.is_alike_before.Given as goal

abbrev pub invariant-loop-d : goal.invariant-loop-d
invariant-loop-d l = Unit {0}

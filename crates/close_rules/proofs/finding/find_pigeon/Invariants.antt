use Rattle.std.proofs.Common.{◌≡◌, ◌<◌, ℕ, false}
use Rattle.close_rules.specs.declared.reason.Reason.TheVariants.{Pigeon}
use Rattle.close_rules.specs.Refutes.{refutes}
use Rattle.close_rules.proofs.finding.find_pigeon.Given as goal

-- none before here holds
abbrev pub invariant-loop-c : goal.invariant-loop-c
invariant-loop-c l = (k : ℕ) → k < l.c → refutes l.state (Pigeon k) ≡ false

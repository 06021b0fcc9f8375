use Rattle.std.proofs.Common.{◌≡◌, ◌<◌, ℕ, false}
use Rattle.close_rules.specs.declared.reason.Reason.TheVariants.{Same}
use Rattle.close_rules.specs.Refutes.{refutes}
use Rattle.close_rules.proofs.finding.find_same_with.Given as goal

-- none before here holds
abbrev pub invariant-loop-u : goal.invariant-loop-u
invariant-loop-u l = (k : ℕ) → l.t < k → k < l.u → refutes l.state (Same l.t k) ≡ false

use Rattle.std.proofs.Common.{◌≡◌, ◌<◌, ℕ, false}
use Rattle.close_rules.specs.declared.reason.Reason.TheVariants.{Same}
use Rattle.close_rules.specs.Refutes.{refutes}
use Rattle.close_rules.proofs.finding.find_same.Given as goal

-- none before here holds
abbrev pub invariant-loop-t : goal.invariant-loop-t
invariant-loop-t l = (k : ℕ) → k < l.t → (u : ℕ) → k < u → refutes l.state (Same k u) ≡ false

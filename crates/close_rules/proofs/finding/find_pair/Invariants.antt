use Rattle.std.proofs.Common.{◌≡◌, ◌<◌, ℕ, false}
use Rattle.close_rules.specs.declared.reason.Reason.TheVariants.{Twin, ContestOrder}
use Rattle.close_rules.specs.Refutes.{refutes}
use Rattle.close_rules.proofs.finding.find_pair.Given as goal

-- none before here holds
abbrev pub invariant-loop-c : goal.invariant-loop-c
invariant-loop-c l = (k : ℕ) → k < l.c → (d : ℕ) → k < d → (refutes l.state (Twin k d) ≡ false) × (refutes l.state (ContestOrder k d) ≡ false)

use Rattle.std.proofs.Common.{◌≡◌, ◌<◌, ℕ, false}
use Rattle.close_rules.specs.declared.reason.Reason.TheVariants.{Twin, ContestOrder}
use Rattle.close_rules.specs.Refutes.{refutes}
use Rattle.close_rules.proofs.finding.find_pair_with.Given as goal

-- none before here holds
abbrev pub invariant-loop-d : goal.invariant-loop-d
invariant-loop-d l = (k : ℕ) → l.c < k → k < l.d → (refutes l.state (Twin l.c k) ≡ false) × (refutes l.state (ContestOrder l.c k) ≡ false)

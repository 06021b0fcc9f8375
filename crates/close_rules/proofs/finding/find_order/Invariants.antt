use Rattle.std.proofs.Common.{◌≡◌, ◌<◌, ℕ, false}
use Rattle.close_rules.specs.declared.reason.Reason.TheVariants.{Order}
use Rattle.close_rules.specs.Refutes.{refutes}
use Rattle.close_rules.proofs.finding.find_order.Given as goal

-- none before here holds
abbrev pub invariant-loop-j : goal.invariant-loop-j
invariant-loop-j l = (k : ℕ) → k < l.j → refutes l.state (Order k) ≡ false

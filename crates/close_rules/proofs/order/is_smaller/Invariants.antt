use Rattle.std.proofs.Common.{◌≡◌, drop}
use Rattle.close_rules.specs.Order.{is_smaller}
use Rattle.close_rules.proofs.order.is_smaller.Given as goal

abbrev pub invariant-loop-t : goal.invariant-loop-t
invariant-loop-t l = is_smaller (drop l.t l.row) (drop l.t l.other) ≡ is_smaller l.row l.other

use Rattle.std.proofs.Common.{◌+◌}
use Rattle.close_rules.proofs.pigeon.+count_lists.Given as goal

-- the numbers that are left
abbrev pub decreases-count_lists : goal.decreases-count_lists
decreases-count_lists l = l.n + l.gap

use Rattle.std.proofs.Common.{◌<◌, ℕ}
use Rattle.lat_top.specs.MatchJob.{IsSameContest}
use Rattle.lat_top.proofs.matching.first_other.Given as goal

-- each contest before this one is the same
abbrev pub invariant-loop-c : goal.invariant-loop-c
invariant-loop-c l = (d : ℕ) → d < l.c → IsSameContest l.style l.cert d

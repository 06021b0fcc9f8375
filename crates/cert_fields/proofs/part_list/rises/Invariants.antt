use Rattle.std.proofs.Common.{◌≡◌, drop}
use Rattle.cert_fields.specs.PartList.{rises}
use Rattle.cert_fields.proofs.part_list.rises.Given as goal

abbrev pub invariant-loop-contest : goal.invariant-loop-contest
invariant-loop-contest l = rises l.count l.low (drop l.contest-index l.contests) ≡ rises l.count 0 l.contests

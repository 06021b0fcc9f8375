use Rattle.std.proofs.Common.{◌≡◌, ◌++◌}
use Rattle.std.specs.Prelude.{codes}
use Rattle.std.specs.List.{flat_map, range_with_len}
use Rattle.deck_text.specs.TargetNames.{target_names}
use Rattle.deck_text.specs.VerifyText.{source_line}
use Rattle.deck_text.proofs.verify_summary.evader_lines.Given as goal

-- the lines of the targets below u are there
abbrev pub invariant-loop-u : goal.invariant-loop-u
invariant-loop-u l = l.text.items ≡ codes "evaded\n" ++ flat_map (source_line (target_names l.names.contests) l.s) (range_with_len 0 l.u)

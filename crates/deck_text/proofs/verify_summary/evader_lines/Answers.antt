use Rattle.std.proofs.Common.{◌++◌, sym, ◌∙◌}
use Rattle.std.specs.Prelude.{codes}
use Rattle.deck_text.specs.TargetNames.{target_names}
use Rattle.deck_text.specs.VerifyText.{source_line}
use Rattle.deck_text.proofs.Ranges.{lines_more}
use Rattle.deck_text.proofs.verify_summary.evader_lines.Goals as goal

pub loop-u-preserved : goal.loop-u-preserved
loop-u-preserved c =
    let lines = source_line (target_names c.args.names.now.contests) c.args.s.now in
    c.in_ok-extend_from_slice.ensures.items
    ∙ (λ i. c.loop-u.invariant i ++ (c.as_slice.ensures.value ∙ c.in_ok-line.ensures) i)
    ∙ sym (lines_more lines (codes "evaded\n") c.loop-u.u)

use Rattle.std.proofs.Common.{◌≡◌, ◌-◌, ◌++◌}
use Rattle.sample_styles.specs.Drawing.{contests_after, behind_contests, style_after, behind_style}
use Rattle.sample_styles.proofs.generator.draw_style.Given as goal

abbrev pub invariant-loop : goal.invariant-loop
invariant-loop l = record {
  contests : l.contests.items ++ contests_after (l.count - l.counter) l.x ≡ style_after l.fn.x;
  behind : behind_contests (l.count - l.counter) l.x ≡ behind_style l.fn.x;
}

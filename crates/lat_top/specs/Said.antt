-- What is said of styles, as far as they are planned.
use Rattle.std.specs.Prelude.{◌≡◌, ◌++◌, ◌+◌, ℕ, List, [], ◌∷◌}
use Rattle.cert_types.specs.declared.verdict.Verdict.{Verdict}
use Rattle.deck_text.specs.CountyText.{counts_of}
use Rattle.lat_top.specs.declared.county.County.{County}
use Rattle.lat_top.specs.County.{Found, county_status, found_line, found_lines, verdicts, with_answer}
use Rattle.lat_top.specs.PlanAnswer.{answer_verdict}

-- the lines, the counts and the status are those of these answers
pub record SaysOf (max : ℕ) (founds : List Found) (county : County) : Type 0 where
  pub lines : county.lines.items ≡ found_lines max founds
  pub counts : county.counts ≡ counts_of (verdicts max founds)
  pub status : county.status ≡ county_status founds

-- what is said of one answer was added
pub record SaysMore (max : ℕ) (found : Found) (before after : County) : Type 0 where
  pub lines : after.lines.items ≡ before.lines.items ++ found_line max found
  pub styles : after.counts.styles ≡ before.counts.styles + 1
  pub counts : (verdicts : List Verdict) → before.counts ≡ counts_of verdicts
      → after.counts ≡ counts_of (verdicts ++ answer_verdict max found.answer ∷ [])
  pub status : after.status ≡ with_answer before.status found.answer

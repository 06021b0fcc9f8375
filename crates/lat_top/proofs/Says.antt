-- What is said of styles, one answer more at a time.
use Rattle.std.proofs.Common.{◌≡◌, ◌++◌, ℕ, List, [], ◌∷◌, refl, ap, sym, ◌∙◌}
use Rattle.std.proofs.lemmas.List.{flat_map_more, map-append}
use Rattle.deck_text.specs.CountyText.{StyleCounts, count_line, counts_of}
use Rattle.lat_top.specs.declared.county.County.{County}
use Rattle.lat_top.specs.declared.status.Status.{Status}
use Rattle.lat_top.specs.declared.status.Status.TheVariants as s
use Rattle.lat_top.specs.County.{Found, county_text, found_line, found_lines, status_after}
use Rattle.lat_top.specs.County.{verdicts, with_answer}
use Rattle.lat_top.specs.PlanAnswer.{answer_verdict}
use Rattle.lat_top.specs.Said.{SaysMore, SaysOf}

-- one more answer is the last that the status takes in
status_after-append : (status : Status) (founds : List Found) (found : Found)
    → status_after status (founds ++ found ∷ [])
    ≡ with_answer (status_after status founds) found.answer
status_after-append status [] found = refl
status_after-append status (first ∷ later) found =
    status_after-append (with_answer status first.answer) later found

verdicts_more : (max : ℕ) (founds : List Found) (found : Found)
    → verdicts max (founds ++ found ∷ [])
    ≡ verdicts max founds ++ answer_verdict max found.answer ∷ []
verdicts_more max founds found =
    map-append (λ (f : Found). answer_verdict max f.answer) founds (found ∷ [])

-- what is said of no style
pub says_none : (max : ℕ) (county : County) → county.lines.items ≡ []
    → county.counts ≡ counts_of [] → county.status ≡ s.Done → SaysOf max [] county
says_none max county lines counts status =
    record { lines = lines; counts = counts; status = status }

-- what is said of one answer more
pub says_more : (max : ℕ) (founds : List Found) (found : Found) (before after : County)
    → SaysOf max founds before → SaysMore max found before after
    → SaysOf max (founds ++ found ∷ []) after
says_more max founds found before after says more = record {
  lines = more.lines
      ∙ ap (λ (text : List ℕ). text ++ found_line max found) says.lines
      ∙ flat_map_more (found_line max) [] founds found;
  counts = more.counts (verdicts max founds) says.counts
      ∙ ap counts_of (sym (verdicts_more max founds found));
  status = more.status
      ∙ ap (λ (status : Status). with_answer status found.answer) says.status
      ∙ sym (status_after-append s.Done founds found);
}

-- the lines and the line of the counts
pub says_text : (max : ℕ) (founds : List Found) (county : County) → SaysOf max founds county
    → county.lines.items ++ count_line county.counts ≡ county_text max founds
says_text max founds county says =
    ap (λ (text : List ℕ). text ++ count_line county.counts) says.lines
    ∙ ap (λ (counts : StyleCounts). found_lines max founds ++ count_line counts) says.counts

-- the same, where only the manifest changed after it
pub says_listed : (max : ℕ) (found : Found) (before mid after : County)
    → SaysMore max found before mid → after.lines.items ≡ mid.lines.items → after.counts
    ≡ mid.counts
    → after.status ≡ mid.status → SaysMore max found before after
says_listed max found before mid after more lines counts status = record {
  lines = lines ∙ more.lines;
  styles = ap (λ (c : StyleCounts). c.styles) counts ∙ more.styles;
  counts = λ verdicts is. counts ∙ more.counts verdicts is;
  status = status ∙ more.status;
}

-- What is said of many styles planned: their lines, and how the call ends.
use Rattle.std.specs.Prelude.{◌++◌, ℕ, Bool, true, false, if◌then◌else◌, List, [], ◌∷◌, flat_map, map}
use Rattle.cert_types.specs.declared.verdict.Verdict.{Verdict}
use Rattle.deck_text.specs.CountyText.{count_line, counts_of, style_line}
use Rattle.planner.specs.declared.answer.Answer.{Answer}
use Rattle.planner.specs.declared.answer.Answer.TheVariants.{Least, NoneWithin, Spent}
use Rattle.lat_top.specs.declared.status.Status.{Status}
use Rattle.lat_top.specs.declared.status.Status.TheVariants as s
use Rattle.lat_top.specs.PlanAnswer.{answer_deck, answer_status, answer_verdict, deck_size}

-- the id of a style, and an answer of the planner for it
pub record Found : Type 0 where
  pub id : List ℕ
  pub answer : Answer

-- what was found for the style of that id
abbrev pub found : List ℕ → Answer → Found
found id answer = record { id = id; answer = answer }

-- the line of one style
abbrev pub found_line : ℕ → Found → List ℕ
found_line max found = style_line found.id (answer_verdict max found.answer)
    (deck_size (answer_deck found.answer))

-- a line for each style
abbrev pub found_lines : ℕ → List Found → List ℕ
found_lines max founds = flat_map (found_line max) founds

-- what each answer says of a size cap of `max` ballots
abbrev pub verdicts : ℕ → List Found → List Verdict
verdicts max founds = map (λ found. answer_verdict max found.answer) founds

-- a line for each style, and one that counts the answers
abbrev pub county_text : ℕ → List Found → List ℕ
county_text max founds = found_lines max founds ++ count_line (counts_of (verdicts max founds))

abbrev pub is_spent : Status → Bool
is_spent (s.Spent from best) = true
is_spent status = false

-- the status so far and an answer's: the first that is spent stays, and else that one has no deck
abbrev pub with_answer : Status → Answer → Status
with_answer status (Least proved lower) = status
with_answer status (NoneWithin lower) = if is_spent status then status else s.NoDeck
with_answer status (Spent kept) =
    if is_spent status then status else answer_status (Spent kept)

-- the status after more answers
abbrev pub status_after : Status → List Found → Status
status_after status [] = status
status_after status (found ∷ later) = status_after (with_answer status found.answer) later

-- the status of all answers together
abbrev pub county_status : List Found → Status
county_status founds = status_after s.Done founds

use Rattle.std.proofs.Common.{◌≡◌, ℕ, List, Some, not, find, sym, subst, ◌∙◌}
use Rattle.std.specs.List.{list_any}
use Rattle.std.specs.Str.{bytes_eq}
use Rattle.serde_json.specs.View.{view}
use Rattle.election_json.specs.Kept.{entry_at}
use Rattle.election_json.proofs.Chosen.{chosen_is}
use Rattle.election_json.proofs.styles.chosen_contest.Goals as goal

pub returns-in-Ok-true-clause-gives : goal.returns-in-Ok-true-clause-gives
returns-in-Ok-true-clause-gives c =
    let contest = entry_at c.args.contests.now c.in-Some.number in
    let found = subst (λ (t : List ℕ). Some contest ≡ find (λ x. bytes_eq t x.id) c.args.contests.now) c.as_bytes.ensures.bytes c.in-Some.ensures.found in
    let fresh = subst (λ (t : List ℕ). c.in-Ok-true.field-0 ≡ not (list_any (bytes_eq t) c.args.earlier.now)) c.as_bytes-2.ensures.bytes c.in-Ok-true.ensures.new in
    chosen_is c.args.contests.now c.args.earlier.now c.args.place (view c.args.value.now) c.in_ok-id.id contest c.in_ok-id.ensures found (sym c.in-Ok-true.field-0-test ∙ fresh)

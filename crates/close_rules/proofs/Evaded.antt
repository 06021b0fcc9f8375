-- A misassignment that keeps the report of a complete deck evades.
use Rattle.std.proofs.Common.{◌≡◌, ◌+◌, ◌<◌, ◌&&◌, ℕ, Bool, true, false, not, List, length, get_or, refl, ap, sym, ◌∙◌, arith}
use Rattle.std.specs.List.{list_all, range_with_len}
use Rattle.std.proofs.lemmas.List.Sums.{list_all-from_AllPass}
use Rattle.std.proofs.lemmas.Bool.{or_right, eq-eqb}
use Rattle.lat_base.specs.Shape.{target_count, first_target, contest_at}
use Rattle.lat_base.specs.Misassignment.{IsMisassignment, identity}
use Rattle.lat_base.specs.Tally.{report, total, own_total}
use Rattle.readings.proofs.Places.{nth_within}
use Rattle.readings.proofs.Reports.{report_same}
use Rattle.deck_state.specs.Mark.{is_undecided}
use Rattle.deck_state.specs.PartialDeck.{PartialDeck}
use Rattle.deck_state.specs.Shown.{IsComplete, shown}
use Rattle.deck_state.specs.Trail.{IsPartial}
use Rattle.deck_state.specs.Votes.{marks_in}
use Rattle.close_rules.specs.Evading.{stays, is_decided, keeps_total, keeps_totals, is_left, keeps_contest, evades}
use Rattle.close_rules.proofs.CompleteRows.{decided_row, possible_is}
use Rattle.close_rules.proofs.DecidedRows.{all_decided}
use Rattle.close_rules.proofs.Misassigned.{is_passed, stay_identity}
use Rattle.close_rules.proofs.Passed.{each_number}

-- each contest of a complete partial deck is decided
contest_decided : (p : PartialDeck) (c : ℕ) → IsPartial p → IsComplete p → is_decided p c ≡ true
contest_decided p c is complete =
    list_all-from_AllPass (λ row. list_all (λ mark. not (is_undecided mark)) (marks_in p.contests row c)) p.marks
    (λ j d lt. all_decided (marks_in p.contests (get_or p.marks j d) c) (sym (possible_is p.contests (get_or p.marks j d) c (decided_row p j d is complete (omega (arith, lt, is.height))))))

pub evaded : (p : PartialDeck) (s : List ℕ) → IsPartial p → IsComplete p
    → IsMisassignment (target_count p.contests) s → (s ≡ identity (target_count p.contests) → ⊥)
    → report p.contests (shown p) s
    ≡ report p.contests (shown p) (identity (target_count p.contests)) → evades p s ≡ true
evaded p s is complete mis other same =
    let n = target_count p.contests in
    let contests = each_number (keeps_contest p s) 0 (length p.contests)
    (λ i lt.
    let c = 0 + i in
    let here : 0 + i ≡ i = omega arith in
    let c_in : 0 + i < length p.contests = omega (arith, here, lt) in
    let totals = each_number (keeps_total p s) (first_target p.contests c) (contest_at p.contests c).targets
    (λ k k_in. eq-eqb (total p.contests (shown p) s (first_target p.contests c + k)) (own_total p.contests (shown p) (first_target p.contests c + k))
    (report_same p.contests (shown p) s (identity n) (first_target p.contests c + k) (nth_within p.contests c k c_in k_in) same)) in
    or_right (is_left p.contests s c) (keeps_totals p s c) (λ x. contest_decided p c is complete x && totals x)) in
    by_answer (list_all (stays s) (range_with_len 0 n)) refl contests
  where
    by_answer : (b : Bool) → list_all (stays s) (range_with_len 0 (target_count p.contests)) ≡ b
        → list_all (keeps_contest p s) (range_with_len 0 (length p.contests)) ≡ true
        → evades p s ≡ true
    by_answer true e contests = absurd (other (stay_identity (target_count p.contests) s mis.long e ∙ ap identity mis.long))
    by_answer false e contests = λ x. is_passed (target_count p.contests) s mis x && (not (e x) && contests x)

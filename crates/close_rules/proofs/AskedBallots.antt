-- A solution has the blank and overvoted ballots that the rules ask for.
use Rattle.std.proofs.Common.{◌≡◌, ◌<◌, ◌&&◌, ℕ, Bool, true, false, not, nat_lt, List, [], length, get_or, count_by, refl, ap, sym, ◌∙◌, arith}
use Rattle.std.proofs.lemmas.List.{get_or_default}
use Rattle.std.proofs.lemmas.List.Sums.{AllPass-from_list_all, list_all-from_AllPass}
use Rattle.std.proofs.lemmas.Bool.{and_parts, not-true, ltb-true, lt-ltb}
use Rattle.lat_base.specs.Shape.{target_count, contest_at}
use Rattle.lat_base.specs.Tally.{mark_count, is_overvoted}
use Rattle.lat_base.specs.Rules.{is_blank}
use Rattle.deck_state.specs.declared.mark.Mark.{Mark}
use Rattle.deck_state.specs.declared.mark.Mark.TheVariants.{Marked, Unmarked, Undecided}
use Rattle.deck_state.specs.Mark.{is_marked}
use Rattle.deck_state.specs.PartialDeck.{PartialDeck}
use Rattle.deck_state.specs.Trail.{IsPartial}
use Rattle.deck_state.specs.Votes.{possible_in}
use Rattle.deck_state.specs.Completion.{Agrees}
use Rattle.deck_state.proofs.Alike.{AreAlike, alike_at, marks_at_most}
use Rattle.deck_state.proofs.Compared.{counts_le}
use Rattle.close_rules.specs.Ballots.{may_be_blank, may_be_overvoted, lacks_blank, lacks_overvoted}
use Rattle.close_rules.specs.Totals.{can_overvote}
use Rattle.close_rules.specs.Solution.{IsSolution}

unmarked : (mark : Mark) (there : Bool) → Agrees mark there → there ≡ false
    → not (is_marked mark) ≡ true
unmarked Marked there agrees e = let bad : true ≡ false = sym agrees ∙ e in cc
unmarked Unmarked there agrees e = refl
unmarked Undecided there agrees e = refl

-- the row of a blank ballot
blank_row : (n : ℕ) (row : List Mark) (ballot : List Bool) → AreAlike n row ballot
    → is_blank ballot ≡ true → may_be_blank row ≡ true
blank_row n row ballot are h =
    list_all-from_AllPass (λ mark. not (is_marked mark)) row (λ t d lt.
    let t_in : t < n = omega (arith, lt, are.row_long) in
    let none : get_or ballot t false ≡ false = not-true (get_or ballot t false) (AllPass-from_list_all not ballot h t false (omega (arith, t_in, are.long))) in
    ap (λ (mark : Mark). not (is_marked mark)) (get_or_default row t d Undecided lt) ∙ unmarked (get_or row t Undecided) (get_or ballot t false) (are.agrees t t_in) none)

-- too few blank ballots leave no solution
pub blank_empty : (p : PartialDeck) (deck : List (List Bool)) → IsPartial p → IsSolution p deck
    → lacks_blank p ≡ true → ⊥
blank_empty p deck is solution h =
    let few = ltb-true (count_by may_be_blank p.marks) p.rules.blank h in
    let blank = counts_le is_blank may_be_blank deck p.marks [] [] (solution.completion.size ∙ sym is.height)
    (λ j lt e. blank_row (target_count p.contests) (get_or p.marks j []) (get_or deck j []) (alike_at p deck j is solution.completion (omega (arith, lt, solution.completion.size))) e) in
    omega (arith, few, blank, solution.good.obeys.blank)

-- too few overvoted ballots leave no solution
pub over_empty : (p : PartialDeck) (deck : List (List Bool)) (c : ℕ) → IsPartial p
    → IsSolution p deck → lacks_overvoted p c ≡ true → ⊥
over_empty p deck c is solution h =
    let contests = p.contests in
    let limit = (contest_at contests c).limit in
    let one = and_parts (nat_lt c (length contests)) (can_overvote (contest_at contests c) && nat_lt (count_by (may_be_overvoted contests c) p.marks) p.rules.over) h in
    let two = and_parts (can_overvote (contest_at contests c)) (nat_lt (count_by (may_be_overvoted contests c) p.marks) p.rules.over) one.1 in
    let few = ltb-true (count_by (may_be_overvoted contests c) p.marks) p.rules.over two.1 in
    let over = counts_le (λ ballot. is_overvoted contests ballot c) (may_be_overvoted contests c) deck p.marks [] [] (solution.completion.size ∙ sym is.height)
    (λ j lt e.
    let alike = alike_at p deck j is solution.completion (omega (arith, lt, solution.completion.size)) in
    lt-ltb limit (possible_in contests (get_or p.marks j []) c) (omega (arith, ltb-true limit (mark_count contests (get_or deck j []) c) e, marks_at_most contests (get_or p.marks j []) (get_or deck j []) c alike))) in
    omega (arith, few, over, solution.good.obeys.over c (ltb-true c (length contests) one.0) (ltb-true limit (contest_at contests c).targets two.0))

-- Columns in a robust deck are different.
use Rattle.std.proofs.Common.{◌≡◌, ◌≢◌, ◌^◌, ◌<◌, ◌&&◌, ℕ, Bool, true, false, not, nat_lt, List, [], length, get_or, ap, sym, ◌∙◌, arith}
use Rattle.std.specs.Prelude.{◌==◌}
use Rattle.std.specs.List.{list_all, range_with_len}
use Rattle.std.proofs.lemmas.Bool.Decides.{nat_tests}
use Rattle.std.proofs.lemmas.List.{get_or_default}
use Rattle.std.proofs.lemmas.List.FromFn.{length-range_with_len}
use Rattle.std.proofs.lemmas.List.Sums.{AllPass-from_list_all}
use Rattle.std.proofs.lemmas.Bool.{and_parts, ltb-true}
use Rattle.lat_base.specs.Shape.{target_count}
use Rattle.lat_base.specs.Tally as tally
use Rattle.readings.proofs.RobustDecks.{columns_differ}
use Rattle.deck_state.specs.declared.mark.Mark.{Mark}
use Rattle.deck_state.specs.declared.mark.Mark.TheVariants.{Marked, Unmarked, Undecided}
use Rattle.deck_state.specs.PartialDeck.{PartialDeck}
use Rattle.deck_state.specs.Trail.{IsPartial}
use Rattle.deck_state.specs.Completion.{Agrees}
use Rattle.deck_state.proofs.Alike.{alike_at}
use Rattle.close_rules.specs.Columns.{is_same, has_same, have_same_columns, has_few_columns}
use Rattle.close_rules.specs.Solution.{IsSolution}
use Rattle.close_rules.proofs.FewColumns.{two_alike, all_counted}

same_marks : (mark other : Mark) (a b : Bool) → Agrees mark a → Agrees other b
    → is_same mark other ≡ true → a ≡ b
same_marks Marked Marked a b x y h = x ∙ sym y
same_marks Marked Unmarked a b x y h = cc
same_marks Marked Undecided a b x y h = cc
same_marks Unmarked Marked a b x y h = cc
same_marks Unmarked Unmarked a b x y h = x ∙ sym y
same_marks Unmarked Undecided a b x y h = cc
same_marks Undecided other a b x y h = cc

-- two targets with the same marks on every ballot leave no solution
pub same_empty : (p : PartialDeck) (deck : List (List Bool)) (t u : ℕ) → IsPartial p
    → IsSolution p deck → have_same_columns p t u ≡ true → ⊥
same_empty p deck t u is solution h =
    let n = target_count p.contests in
    let one = and_parts (nat_lt t n) (nat_lt u n && (not (t == u) && list_all (has_same t u) p.marks)) h in
    let two = and_parts (nat_lt u n) (not (t == u) && list_all (has_same t u) p.marks) one.1 in
    let three = and_parts (not (t == u)) (list_all (has_same t u) p.marks) two.1 in
    let t_in : t < n = ltb-true t n one.0 in
    let u_in : u < n = ltb-true u n two.0 in
    let other : t ≢ u = grind (arith, nat_tests, three.0) in
    let rows = AllPass-from_list_all (has_same t u) p.marks three.1 in
    columns_differ p.contests deck t u solution.good.robust solution.good.fits t_in u_in other
    (λ j d lt.
    let j_in : j < p.ballots = omega (arith, lt, solution.completion.size) in
    let alike = alike_at p deck j is solution.completion j_in in
    let here : get_or deck j d ≡ get_or deck j [] = get_or_default deck j d [] lt in
    let marks = same_marks (get_or (get_or p.marks j []) t Undecided) (get_or (get_or p.marks j []) u Undecided) (get_or (get_or deck j []) t false) (get_or (get_or deck j []) u false)
    (alike.agrees t t_in) (alike.agrees u u_in) (rows j [] (omega (arith, j_in, is.height))) in
    ap (λ (ballot : List Bool). tally.is_marked ballot t) here ∙ (marks ∙ sym (ap (λ (ballot : List Bool). tally.is_marked ballot u) here)))

-- fewer columns than targets leave no solution
pub columns_empty : (p : PartialDeck) (deck : List (List Bool)) → IsSolution p deck
    → has_few_columns p ≡ true → ⊥
columns_empty p deck solution h =
    let n = target_count p.contests in
    let few : 2 ^ p.ballots < n = ltb-true (2 ^ p.ballots) n h in
    let size : 2 ^ length deck ≡ 2 ^ p.ballots = ap (λ (k : ℕ). 2 ^ k) solution.completion.size in
    let found = two_alike n deck (λ u. true) (omega (arith, few, size, all_counted (range_with_len 0 n), length-range_with_len 0 n)) in
    columns_differ p.contests deck found.first found.second solution.good.robust solution.good.fits (omega (arith, found.first_in)) (omega (arith, found.second_in)) found.other found.same

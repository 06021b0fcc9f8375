-- The votes of a contest in a solution are at most its capacity.
use Rattle.std.proofs.Common.{◌≡◌, ◌+◌, ◌<◌, ◌≤◌, ℕ, suc, Bool, true, false, not, nat_lt, min, List, [], ◌∷◌, length, get_or, map, cond, count_by, refl, ap, sym, subst, ◌∙◌, arith, inl, inr}
use Rattle.std.specs.List.{range_with_len, sum, sum_by}
use Rattle.std.proofs.lemmas.Bool.{cases_lt, and_parts, not-true, ltb-true, lt-ltb, ltb-false, le-ltb}
use Rattle.std.proofs.lemmas.List.Sums.{sum-map, sum_by-le-sum_by}
use Rattle.lat_base.specs.declared.contest.Contest.{Contest}
use Rattle.lat_base.specs.Shape.{target_count, first_target, contest_at, contest_of}
use Rattle.lat_base.specs.Tally.{is_marked, mark_count, is_overvoted, votes_for, own_total}
use Rattle.lat_base.specs.Rules.{is_blank}
use Rattle.readings.specs.Structural.{targets_of}
use Rattle.lemmas.proofs.Counting.{count_map}
use Rattle.lemmas.proofs.DoubleSums.{sums_exchanged}
use Rattle.readings.proofs.Marks.{marks_are}
use Rattle.readings.proofs.Places.{first_next, first_le, contest_is}
use Rattle.deck_state.specs.declared.mark.Mark.{Mark}
use Rattle.deck_state.specs.PartialDeck.{PartialDeck}
use Rattle.deck_state.specs.Trail.{IsPartial}
use Rattle.deck_state.specs.Votes.{lo, hi, marked_in, possible_in}
use Rattle.deck_state.proofs.Alike.{AreAlike, alike_at, marks_at_most, marks_at_least}
use Rattle.deck_state.proofs.Compared.{counts_le}
use Rattle.deck_state.proofs.Enclosed.{own_votes}
use Rattle.close_rules.specs.Capacity.{most_votes, capacity, has_no_capacity}
use Rattle.close_rules.specs.Solution.{IsSolution}
use Rattle.close_rules.specs.Totals.{least_totals, most_voting}
use Rattle.close_rules.proofs.FewColumns.{one_passes}
use Rattle.close_rules.proofs.Largest.{AreUpTo, largest_by_levels}
use Rattle.close_rules.proofs.LeastTotals.{are_rising, least_sum}
use Rattle.close_rules.proofs.Levels.{count_above, levels, sums_agree, sum_by_levels}
use Rattle.close_rules.proofs.Voting.{is_voting, few_voting, vote_is_voting}

-- how many targets of contest c a ballot votes for
abbrev votes_in : List Contest → ℕ → List Bool → ℕ
votes_in contests c ballot = count_by (λ t. votes_for contests ballot t) (targets_of contests c)

-- the totals of a contest are its votes on all ballots
pub total_votes : (contests : List Contest) (deck : List (List Bool)) (c : ℕ) → (ts : List ℕ)
    → ((t : ℕ) → own_total contests deck t ≡ count_by (λ ballot. votes_for contests ballot t) deck)
    → sum (map (own_total contests deck) ts)
    ≡ sum_by (λ ballot. count_by (λ t. votes_for contests ballot t) ts) deck
total_votes contests deck c ts own =
    sum-map (own_total contests deck) ts ∙ (sums_agree (own_total contests deck) (λ t. count_by (λ ballot. votes_for contests ballot t) deck) ts own ∙ sums_exchanged (λ ballot t. votes_for contests ballot t) ts deck)

-- no more than the targets that it marks
votes_marks : (contests : List Contest) (ballot : List Bool) (c : ℕ) → c < length contests
    → length ballot ≡ target_count contests
    → votes_in contests c ballot ≤ mark_count contests ballot c
votes_marks contests ballot c h long =
    let marks : mark_count contests ballot c ≡ count_by (λ t. is_marked ballot t) (targets_of contests c) = ap (count_by (λ (m : Bool). m)) (marks_are contests ballot c h long) ∙ count_map (λ (t : ℕ). is_marked ballot t) (λ (m : Bool). m) (targets_of contests c) in
    let few = counts_le (λ (t : ℕ). votes_for contests ballot t) (λ (t : ℕ). is_marked ballot t) (targets_of contests c) (targets_of contests c) 0 0 refl
    (λ i lt votes. (and_parts (is_marked ballot (get_or (targets_of contests c) i 0)) (not (is_overvoted contests ballot (contest_of contests (get_or (targets_of contests c) i 0)))) votes).0) in
    omega (arith, marks, few)

-- a ballot with a vote in a contest votes in it
some_vote : (contests : List Contest) (ballot : List Bool) (c : ℕ) → c < length contests
    → length ballot ≡ target_count contests → 0 < votes_in contests c ballot
    → is_voting contests c ballot ≡ true
some_vote contests ballot c h long some =
    let found = one_passes (λ t. votes_for contests ballot t) (first_target contests c) (contest_at contests c).targets (omega (arith, some)) in
    let next = first_next contests c h in
    let of : contest_of contests found.0 ≡ c = contest_is contests c found.0 (record { contest = h; from = found.1; to = omega (arith, next, found.2) }) in
    subst (λ (x : ℕ). is_voting contests x ballot ≡ true) of (vote_is_voting contests ballot found.0 (omega (arith, found.2, next, first_le contests (c + 1))) long found.3)

-- the votes of a ballot are possible in the row that it agrees with
votes_possible : (contests : List Contest) (row : List Mark) (ballot : List Bool) (c : ℕ)
    → c < length contests → AreAlike (target_count contests) row ballot
    → votes_in contests c ballot ≤ most_votes contests c row
votes_possible contests row ballot c h are = elim (cases_lt 0 (votes_in contests c ballot)) [
  | inr none ↦ omega (arith, none)
  | inl some ↦
      let limit = (contest_at contests c).limit in
      let voting = and_parts (not (is_blank ballot)) (not (is_overvoted contests ballot c)) (some_vote contests ballot c h are.long some) in
      let fine : mark_count contests ballot c ≤ limit = ltb-false limit (mark_count contests ballot c) (not-true (is_overvoted contests ballot c) voting.1) in
      let test : nat_lt limit (marked_in contests row c) ≡ false = le-ltb limit (marked_in contests row c) (omega (arith, fine, marks_at_least contests row ballot c are)) in
      let can : most_votes contests c row ≡ min limit (possible_in contests row c) = ap (λ (b : Bool). cond b 0 (min limit (possible_in contests row c))) test in
      omega (arith, can, fine, votes_marks contests ballot c h are.long, marks_at_most contests row ballot c are)
]

-- no row gives more votes than the limit
pub few_possible : (contests : List Contest) (row : List Mark) (c : ℕ)
    → most_votes contests c row ≤ (contest_at contests c).limit
few_possible contests row c = by_test (nat_lt (contest_at contests c).limit (marked_in contests row c))
  where
    by_test : (b : Bool) → cond b 0 (min (contest_at contests c).limit (possible_in contests row c))
        ≤ (contest_at contests c).limit
    by_test true = omega arith
    by_test false = omega arith

-- numbers made from a list, each at most n
pub made_up_to : {X : Type 0} (f : X → ℕ) (n : ℕ) (d : X) (xs : List X)
    → ((i : ℕ) → i < length xs → f (get_or xs i d) ≤ n) → AreUpTo n (map f xs)
made_up_to f n d [] h = tt
made_up_to f n d (x ∷ xs) h = (h 0 (omega arith), made_up_to f n d xs (λ i lt. h (suc i) (omega (arith, lt))))

-- at each level
level_le : (p : PartialDeck) (deck : List (List Bool)) (c level : ℕ) → IsPartial p
    → IsSolution p deck → c < length p.contests
    → count_above level (map (votes_in p.contests c) deck)
    ≤ min (most_voting p c) (count_above level (map (most_votes p.contests c) p.marks))
level_le p deck c level is solution h =
    let contests = p.contests in
    let votes = count_map (votes_in contests c) (λ (n : ℕ). nat_lt level n) deck in
    let can = count_map (most_votes contests c) (λ (n : ℕ). nat_lt level n) p.marks in
    let voting = counts_le (λ ballot. nat_lt level (votes_in contests c ballot)) (is_voting contests c) deck deck [] [] refl
    (λ j lt above. some_vote contests (get_or deck j []) c h (solution.good.fits j [] lt) (omega (arith, ltb-true level (votes_in contests c (get_or deck j [])) above))) in
    let possible = counts_le (λ ballot. nat_lt level (votes_in contests c ballot)) (λ row. nat_lt level (most_votes contests c row)) deck p.marks [] [] (solution.completion.size ∙ sym is.height)
    (λ j lt above.
    let alike = alike_at p deck j is solution.completion (omega (arith, lt, solution.completion.size)) in
    lt-ltb level (most_votes contests c (get_or p.marks j [])) (omega (arith, ltb-true level (votes_in contests c (get_or deck j [])) above, votes_possible contests (get_or p.marks j []) (get_or deck j []) c h alike))) in
    omega (arith, votes, can, voting, possible, few_voting p deck c solution h)

-- the capacity by levels
pub capacity_by_levels : (p : PartialDeck) (c : ℕ)
    → levels (contest_at p.contests c).limit (most_voting p c)
    (map (most_votes p.contests c) p.marks) ≡ capacity p c
capacity_by_levels p c =
    largest_by_levels (contest_at p.contests c).limit (most_voting p c) (map (most_votes p.contests c) p.marks) (made_up_to (most_votes p.contests c) (contest_at p.contests c).limit [] p.marks (λ j lt. few_possible p.contests (get_or p.marks j []) c))

-- the votes of a contest
pub votes_fit : (p : PartialDeck) (deck : List (List Bool)) (c : ℕ) → IsPartial p
    → IsSolution p deck → c < length p.contests → sum_by (votes_in p.contests c) deck ≤ capacity p c
votes_fit p deck c is solution h =
    let contests = p.contests in
    let limit = (contest_at contests c).limit in
    let numbers = map (votes_in contests c) deck in
    let up_to = made_up_to (votes_in contests c) limit [] deck
    (λ j lt. omega (arith, few_possible contests (get_or p.marks j []) c, votes_possible contests (get_or p.marks j []) (get_or deck j []) c h (alike_at p deck j is solution.completion (omega (arith, lt, solution.completion.size))))) in
    let each = sum_by-le-sum_by (λ level. count_above level numbers) (λ level. min (most_voting p c) (count_above level (map (most_votes contests c) p.marks))) (range_with_len 0 limit)
    (λ level. level_le p deck c level is solution h) in
    omega (arith, sum-map (votes_in contests c) deck, sum_by_levels limit numbers up_to, each, capacity_by_levels p c)

-- least totals of more votes than a contest can have leave no solution
pub capacity_empty : (p : PartialDeck) (deck : List (List Bool)) (c : ℕ) → IsPartial p
    → IsSolution p deck → has_no_capacity p c ≡ true → ⊥
capacity_empty p deck c is solution h =
    let contests = p.contests in
    let parts = and_parts (nat_lt c (length contests)) (nat_lt (capacity p c) (sum (least_totals p c))) h in
    let c_in = ltb-true c (length contests) parts.0 in
    let least = least_sum (lo p) (hi p) (most_voting p c) p.rules.least (first_target contests c) (contest_at contests c).targets (own_total contests deck) (are_rising p deck c is solution c_in) in
    let votes = total_votes contests deck c (targets_of contests c) (λ t. own_votes contests deck t solution.good.fits) in
    omega (arith, ltb-true (capacity p c) (sum (least_totals p c)) parts.1, least, votes, votes_fit p deck c is solution c_in)

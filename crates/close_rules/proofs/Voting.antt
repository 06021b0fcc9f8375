-- Ballots that vote in a contest are neither blank nor overvoted in it.
use Rattle.std.proofs.Common.{◌≡◌, ◌+◌, ◌-◌, ◌<◌, ◌≤◌, ◌&&◌, ℕ, Bool, true, false, not, List, [], ◌∷◌, length, get_or, cond, count_by, refl, ap, sym, ◌∙◌, arith, All}
use Rattle.std.specs.Prelude.{slice_range}
use Rattle.std.proofs.lemmas.List.Elements.{All-head, All-tail}
use Rattle.std.proofs.lemmas.List.Sums.{AllPass-from_list_all, sum_by-cons}
use Rattle.std.proofs.lemmas.Bool.{and_parts, not-true, ltb-true, le-ltb}
use Rattle.lat_base.specs.declared.contest.Contest.{Contest}
use Rattle.lat_base.specs.Shape.{target_count, first_target, contest_at, contest_of}
use Rattle.lat_base.specs.Tally.{is_marked, mark_count, is_overvoted, votes_for}
use Rattle.lat_base.specs.Rules.{is_blank}
use Rattle.readings.proofs.Places.{first_le}
use Rattle.deck_state.specs.PartialDeck.{PartialDeck}
use Rattle.deck_state.proofs.Compared.{slice_long, slice_at}
use Rattle.close_rules.specs.Totals.{can_overvote, most_voting}
use Rattle.close_rules.specs.Solution.{IsSolution}

-- whether a ballot is neither blank nor overvoted in contest c
abbrev pub is_voting : List Contest → ℕ → List Bool → Bool
is_voting contests c ballot = not (is_blank ballot) && not (is_overvoted contests ballot c)

none_counted : (marks : List Bool) → All (λ m. m ≡ false) marks → count_by (λ m. m) marks ≡ 0
none_counted [] h = refl
none_counted (mark ∷ marks) h =
    let none : ◌≡◌ {A = ℕ} (cond mark 1 0) 0 = ap (λ (b : Bool). cond b 1 0) (All-head (λ (m : Bool). m ≡ false) mark marks h) in
    omega (arith, sum_by-cons (λ (m : Bool). cond m 1 0) mark marks, none, none_counted marks (All-tail (λ (m : Bool). m ≡ false) mark marks h))

-- a blank ballot marks nothing in a contest
blank_marks : (contests : List Contest) (ballot : List Bool) (c : ℕ)
    → length ballot ≡ target_count contests → is_blank ballot ≡ true
    → mark_count contests ballot c ≡ 0
blank_marks contests ballot c long h =
    let first = first_target contests c in
    let last = first_target contests (c + 1) in
    let all = AllPass-from_list_all not ballot h in
    let wide : length (slice_range ballot first last) ≡ last - first = slice_long ballot first last (omega (arith, long, first_le contests (c + 1))) in
    none_counted (slice_range ballot first last) (λ i d lt.
    let i_in : i < last - first = omega (arith, lt, wide) in
    slice_at ballot first last i d i_in ∙ not-true (get_or ballot (first + i) d) (all (first + i) d (omega (arith, i_in, long, first_le contests (c + 1)))))

-- so it is not overvoted in it
blank_not_over : (contests : List Contest) (ballot : List Bool) (c : ℕ)
    → length ballot ≡ target_count contests → is_blank ballot ≡ true
    → is_overvoted contests ballot c ≡ false
blank_not_over contests ballot c long h = le-ltb (contest_at contests c).limit (mark_count contests ballot c) (omega (arith, blank_marks contests ballot c long h))

-- a ballot is one of the three at most
one_kind : (blank over : Bool) → (blank ≡ true → over ≡ false) → cond {A = ℕ} blank 1 0 + (cond over 1 0 + cond (not blank && not over) 1 0) ≤ 1
one_kind true true h = absurd (cc (h refl))
one_kind true false h = omega arith
one_kind false true h = omega arith
one_kind false false h = omega arith

-- counts of ballots of three kinds
apart : {X : Type 0} (p q r : X → Bool) (xs : List X)
    → All (λ x. cond (p x) 1 0 + (cond (q x) 1 0 + cond (r x) 1 0) ≤ 1) xs
    → count_by p xs + (count_by q xs + count_by r xs) ≤ length xs
apart p q r [] h = omega arith
apart {X} p q r (x ∷ xs) h =
    omega (
      arith,
      sum_by-cons (λ (y : X). cond (p y) 1 0) x xs,
      sum_by-cons (λ (y : X). cond (q y) 1 0) x xs,
      sum_by-cons (λ (y : X). cond (r y) 1 0) x xs,
      All-head (λ (y : X). cond {A = ℕ} (p y) 1 0 + (cond (q y) 1 0 + cond (r y) 1 0) ≤ 1) x xs h,
      apart p q r xs (All-tail (λ (y : X). cond {A = ℕ} (p y) 1 0 + (cond (q y) 1 0 + cond (r y) 1 0) ≤ 1) x xs h),
    )

-- no more ballots of a solution vote in a contest than can do so
pub few_voting : (p : PartialDeck) (deck : List (List Bool)) (c : ℕ) → IsSolution p deck
    → c < length p.contests → count_by (is_voting p.contests c) deck ≤ most_voting p c
few_voting p deck c solution h = by_kind (can_overvote (contest_at p.contests c)) refl
  where
    kinds : count_by is_blank deck + (count_by (λ ballot. is_overvoted p.contests ballot c)
        deck + count_by (is_voting p.contests c) deck) ≤ p.ballots
    kinds =
        let three = apart is_blank (λ (ballot : List Bool). is_overvoted p.contests ballot c) (is_voting p.contests c) deck
        (λ j d lt. one_kind (is_blank (get_or deck j d)) (is_overvoted p.contests (get_or deck j d) c) (blank_not_over p.contests (get_or deck j d) c (solution.good.fits j d lt))) in
        omega (arith, three, solution.completion.size)

    by_kind : (can : Bool) → can_overvote (contest_at p.contests c) ≡ can
        → count_by (is_voting p.contests c) deck
        ≤ cond can (p.ballots - p.rules.blank - p.rules.over) (p.ballots - p.rules.blank)
    by_kind true can = omega (arith, kinds, solution.good.obeys.blank, solution.good.obeys.over c h (ltb-true (contest_at p.contests c).limit (contest_at p.contests c).targets can))
    by_kind false can = omega (arith, kinds, solution.good.obeys.blank)

-- a ballot that votes for a target votes in its contest
pub vote_is_voting : (contests : List Contest) (ballot : List Bool) (t : ℕ)
    → t < target_count contests → length ballot ≡ target_count contests
    → votes_for contests ballot t ≡ true → is_voting contests (contest_of contests t) ballot ≡ true
vote_is_voting contests ballot t h long votes =
    let over = is_overvoted contests ballot (contest_of contests t) in
    let parts = and_parts (is_marked ballot t) (not over) votes in
    by_blank (is_blank ballot) refl parts.0 parts.1
  where
    by_blank : (blank : Bool) → is_blank ballot ≡ blank → is_marked ballot t ≡ true
        → not (is_overvoted contests ballot (contest_of contests t)) ≡ true
        → (not blank && not (is_overvoted contests ballot (contest_of contests t))) ≡ true
    by_blank false e marked fine = fine
    by_blank true e marked fine =
        let none : get_or ballot t false ≡ false = not-true (get_or ballot t false) (AllPass-from_list_all not ballot e t false (omega (arith, h, long))) in
        let bad : true ≡ false = sym marked ∙ none in cc

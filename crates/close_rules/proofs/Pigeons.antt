-- The contests of one shape have different lists of totals in each solution, so no more of them
-- than lists.
use Rattle.std.proofs.Common.{◌≡◌, ◌+◌, ◌-◌, ◌*◌, min, ◌<◌, ◌≤◌, ◌&&◌, ℕ, zero, suc, Bool, true, false, nat_lt, List, ◌∷◌, length, get_or, map, cond, count_by, subst, refl, ap, sym, ◌∙◌, arith, All}
use Rattle.std.specs.Prelude.{◌==◌, nat_eq}
use Rattle.std.specs.Bool.{Decides}
use Rattle.std.specs.Cmp.Lexicographic.{pointwise}
use Rattle.std.specs.List.{range_with_len, sum, filter, Contains, IsDistinct}
use Rattle.std.specs.Set.{is_member}
use Rattle.std.proofs.lemmas.Bool.{and_parts, ltb-true, le-leb, eqb-true}
use Rattle.std.proofs.lemmas.Bool.Decides.{Decides-eqb, nat_tests}
use Rattle.std.proofs.lemmas.Cmp.{nat_list_eq_equiv}
use Rattle.std.proofs.lemmas.List.{get_or-map, length-map}
use Rattle.std.proofs.lemmas.List.Elements.{All-map, All-filter, All-contains, filter_passes, recursion_from_All, Contains-append_left, Contains-append_right}
use Rattle.std.proofs.lemmas.List.FromFn.{get_or-range_with_len, length-range_with_len, get_or-map-range_with_len, fill_by_all}
use Rattle.std.proofs.lemmas.List.Sums.{length-filter, sum_by-le}
use Rattle.std.proofs.lemmas.Map.Keys.{IsDistinct-cons}
use Rattle.std.proofs.lemmas.Map.Made.{length-le_from_is_member, is_member-filter, is_member-Decides}
use Rattle.std.proofs.lemmas.Slice.Eq.{slice_eq-Decides}
use Rattle.lat_base.specs.declared.contest.Contest.{Contest}
use Rattle.lat_base.specs.Shape.{first_target, contest_at, no_contest}
use Rattle.lat_base.specs.Tally.{own_total}
use Rattle.readings.specs.Structural.{targets_of}
use Rattle.readings.proofs.ContestExchange.{twins_differ}
use Rattle.lemmas.proofs.Counting.{count_map}
use Rattle.deck_state.specs.PartialDeck.{PartialDeck}
use Rattle.deck_state.specs.Trail.{IsPartial}
use Rattle.deck_state.proofs.Enclosed.{own_votes}
use Rattle.close_rules.specs.Capacity.{most_votes}
use Rattle.close_rules.specs.Fixed.{has_shape_of}
use Rattle.close_rules.specs.Pigeon.{choices, rising_lists, lists_of_totals, alike_count, has_few_lists}
use Rattle.close_rules.specs.Solution.{IsSolution}
use Rattle.close_rules.specs.Totals.{most_voting, can_overvote}
use Rattle.close_rules.proofs.Capacities.{capacity_by_levels, total_votes, votes_fit}
use Rattle.close_rules.proofs.Choices.{fits}
use Rattle.close_rules.proofs.FixedTotals.{same_shape}
use Rattle.close_rules.proofs.LeastTotals.{are_rising}
use Rattle.close_rules.proofs.Levels.{count_above}

-- equal lists of numbers
abbrev same : List ℕ → List ℕ → Bool
same = pointwise nat_eq

decides : (a b : List ℕ) → Decides (same a b) (a ≡ b)
decides a b = slice_eq-Decides Decides-eqb a b (same a b) refl

-- n totals from target t on that rise strictly, among so many numbers from a number on
record IsRise (totals : ℕ → ℕ) (t n from many : ℕ) : Type 0 where
  pub begins : 0 < n → from ≤ totals t
  pub below : (i : ℕ) → i < n → totals (t + i) < from + many
  pub rise : (i : ℕ) → i + 1 < n → totals (t + i) < totals (t + i + 1)

contains_map : (f : List ℕ → List ℕ) (xs : List (List ℕ)) (x : List ℕ) → Contains xs x
    → Contains (map f xs) (f x)
contains_map f xs x is = (is.0, omega (arith, is.1, length-map xs f), get_or-map f xs is.0 x (f x) is.1 ∙ ap f is.2)

-- such totals are one of the choices
is_choice : (totals : ℕ → ℕ) (t n from many : ℕ) → IsRise totals t n from many
    → Contains (choices n (range_with_len from many)) (map totals (range_with_len t n))
is_choice totals t zero from many is = (0, omega arith, refl)
is_choice totals t (suc n) from zero is =
    let at : t + 0 ≡ t = omega arith in
    absurd (omega (arith, is.begins (omega arith), subst (λ (x : ℕ). totals x < from + 0) at (is.below 0 (omega arith))))
is_choice totals t (suc n) from (suc many) is =
    by_first totals t n from many is (totals t == from) refl (λ h. is_choice totals (t + 1) n (from + 1) many h) (λ h. is_choice totals t (suc n) (from + 1) many h)
  where
    next : (t i : ℕ) → t + (i + 1) ≡ t + 1 + i
    next t i = omega arith

    at_start : (t : ℕ) → t + 0 ≡ t
    at_start t = omega arith

    by_first : (totals : ℕ → ℕ) (t n from many : ℕ) → IsRise totals t (suc n) from (suc many)
        → (b : Bool) → (totals t == from) ≡ b
        → (IsRise totals (t + 1) n (from + 1) many
        → Contains (choices n (range_with_len (from + 1) many))
        (map totals (range_with_len (t + 1) n)))
        → (IsRise totals t (suc n) (from + 1) many
        → Contains (choices (suc n) (range_with_len (from + 1) many))
        (map totals (range_with_len t (suc n))))
        → Contains (choices (suc n) (range_with_len from (suc many)))
        (map totals (range_with_len t (suc n)))
    by_first totals t n from many is true e with without =
        let first : totals t ≡ from = eqb-true (totals t) from e in
        let rest = map totals (range_with_len (t + 1) n) in
        let begun = map (λ chosen. from ∷ chosen) (choices n (range_with_len (from + 1) many)) in
        Contains-append_left begun (choices (suc n) (range_with_len (from + 1) many)) (totals t ∷ rest)
        (subst (λ (x : ℕ). Contains begun (x ∷ rest)) (sym first)
        (contains_map (λ chosen. from ∷ chosen) (choices n (range_with_len (from + 1) many)) rest
        (with (record {
          begins = λ some. let up : totals t < totals (t + 1) = subst (λ (x : ℕ). totals x < totals (x + 1)) (at_start t) (is.rise 0 (omega (arith, some))) in omega (arith, up, first);
          below = λ i lt. let low = subst (λ (x : ℕ). totals x < from + suc many) (next t i) (is.below (i + 1) (omega (arith, lt))) in omega (arith, low);
          rise = λ i lt. subst (λ (x : ℕ). totals x < totals (x + 1)) (next t i) (is.rise (i + 1) (omega (arith, lt)));
        }))))
    by_first totals t n from many is false e with without =
        let low = is.begins (omega arith) in
        let more : from < totals t = grind (arith, nat_tests, e, low) in
        Contains-append_right (map (λ chosen. from ∷ chosen) (choices n (range_with_len (from + 1) many))) (choices (suc n) (range_with_len (from + 1) many)) (map totals (range_with_len t (suc n)))
        (without (record {
          begins = λ some. omega (arith, more);
          below = λ i lt. let up = is.below i lt in omega (arith, up);
          rise = is.rise;
        }))

-- the totals of contest d in a deck
abbrev totals_of : List Contest → List (List Bool) → ℕ → List ℕ
totals_of contests deck d = map (own_total contests deck) (targets_of contests d)

-- their sum is at most all votes of those that can vote
few_votes : (p : PartialDeck) (deck : List (List Bool)) (d : ℕ) → IsPartial p → IsSolution p deck
    → d < length p.contests → sum (totals_of p.contests deck d)
    ≤ (contest_at p.contests d).limit * most_voting p d
few_votes p deck d is solution h =
    let limit = (contest_at p.contests d).limit in
    let most = most_voting p d in
    let numbers = map (most_votes p.contests d) p.marks in
    let votes = total_votes p.contests deck d (targets_of p.contests d) (λ t. own_votes p.contests deck t solution.good.fits) in
    let all = sum_by-le (λ level. min most (count_above level numbers)) most (range_with_len 0 limit) (λ i e lt. omega arith) in
    let wide : length (range_with_len 0 limit) * most ≡ limit * most = ap (λ (k : ℕ). k * most) (length-range_with_len 0 limit) in
    omega (arith, votes, votes_fit p deck d is solution h, capacity_by_levels p d, all, wide)

-- a contest of the shape of c has one of the lists
has_list : (p : PartialDeck) (deck : List (List Bool)) (c d : ℕ) → IsPartial p → IsSolution p deck
    → d < length p.contests → has_shape_of (contest_at p.contests c) (contest_at p.contests d)
    ≡ true
    → is_member same (lists_of_totals p c) (totals_of p.contests deck d) ≡ true
has_list p deck c d is solution h alike =
    let contests = p.contests in
    let shape : contest_at contests d ≡ contest_at contests c = sym (same_shape (contest_at contests c) (contest_at contests d) alike) in
    let voting : Contest → ℕ = λ x. cond (can_overvote x) (p.ballots - p.rules.blank - p.rules.over) (p.ballots - p.rules.blank) in
    let of : Contest → Bool = λ x. is_member same (rising_lists x.targets p.rules.least (voting x + 1 - p.rules.least) (x.limit * voting x)) (totals_of contests deck d) in
    subst (λ (x : Contest). of x ≡ true) shape (own p deck d is solution h)
  where
    at_first : (totals : ℕ → ℕ) (t most : ℕ) → totals (t + 0) ≤ most → totals t ≤ most
    at_first totals t most h = let at : t + 0 ≡ t = omega arith in subst (λ (x : ℕ). totals x ≤ most) at h

    own : (p : PartialDeck) (deck : List (List Bool)) (d : ℕ) → IsPartial p → IsSolution p deck
        → d < length p.contests → is_member same (lists_of_totals p d) (totals_of p.contests deck d)
        ≡ true
    own p deck d is solution h =
        let contests = p.contests in
        let contest = contest_at contests d in
        let most = most_voting p d in
        let room = contest.limit * most in
        let totals = totals_of contests deck d in
        let many = most + 1 - p.rules.least in
        let all = choices contest.targets (range_with_len p.rules.least many) in
        let rising = are_rising p deck d is solution h in
        let some : 0 < contest.targets = omega (arith, (is.shape.counts d no_contest h).0) in
        let low = rising.begins some in
        let least_few : p.rules.least ≤ most = omega (arith, low, at_first (own_total contests deck) (first_target contests d) most (rising.few 0 some)) in
        let chosen = is_choice (own_total contests deck) (first_target contests d) contest.targets p.rules.least many (record {
          begins = rising.begins;
          below = λ i lt. let few = rising.few i lt in omega (arith, few, least_few);
          rise = rising.rise;
        }) in
        let member : is_member same all totals ≡ true = (is_member-Decides decides all totals).1 chosen in
        let fine : fits room totals ≡ true = le-leb (sum totals) room (few_votes p deck d is solution h) in
        is_member-filter nat_list_eq_equiv (fits room) totals (λ x e. ap (fits room) ((decides totals x).0 e)) all ∙ (λ i. member i && fine i)

-- two contests of one shape have different lists
lists_differ : (p : PartialDeck) (deck : List (List Bool)) (d e : ℕ) → IsPartial p
    → IsSolution p deck → d < e → e < length p.contests
    → contest_at p.contests d ≡ contest_at p.contests e
    → totals_of p.contests deck d ≡ totals_of p.contests deck e → ⊥
lists_differ p deck d e is solution before e_in shape lists =
    let contests = p.contests in
    let d_in : d < length contests = omega (arith, before, e_in) in
    twins_differ contests deck d e solution.good.robust solution.good.fits (omega (arith, before)) d_in e_in shape (is.shape.counts d no_contest d_in).0
    (λ i i_in.
    sym (get_or-map-range_with_len (own_total contests deck) (first_target contests d) (contest_at contests d).targets i (first_target contests d + i) 0 i_in refl)
    ∙ (ap (λ (totals : List ℕ). get_or totals i 0) lists
    ∙ get_or-map-range_with_len (own_total contests deck) (first_target contests e) (contest_at contests e).targets i (first_target contests e + i) 0 (omega (arith, i_in, ap (λ (x : Contest). x.targets) shape)) refl))

-- what holds of each number of a range that passes a test
of_passing : (test : ℕ → Bool) (P : ℕ → Type 0) (first n : ℕ)
    → ((d : ℕ) → first ≤ d → d < first + n → test d ≡ true → P d)
    → All P (filter test (range_with_len first n))
of_passing test P first n h =
    let kept = All-filter test (λ (d : ℕ). test d ≡ true → P d) (range_with_len first n)
    (λ i e lt.
    let i_in : i < n = omega (arith, lt, length-range_with_len first n) in
    subst (λ (d : ℕ). test d ≡ true → P d) (sym (get_or-range_with_len first n i e i_in)) (h (first + i) (omega arith) (omega (arith, i_in)))) in
    λ i e lt. kept i e lt (filter_passes test (range_with_len first n) i e lt)

-- lists made from the numbers of a range that pass a test differ, where each two of them do
distinct : (f : ℕ → List ℕ) (test : ℕ → Bool) (first n : ℕ)
    → ((d e : ℕ) → first ≤ d → d < e → e < first + n → test d ≡ true → test e ≡ true
    → same (f d) (f e) ≡ false) → IsDistinct same (map f (filter test (range_with_len first n)))
unfolding IsDistinct
distinct f test first zero h = tt
distinct f test first (suc n) h =
    by_test (test first) refl (distinct f test (first + 1) n (λ d e from lt to p q. h d e (omega (arith, from)) lt (omega (arith, to)) p q))
  where
    others : List ℕ
    others = filter test (range_with_len (first + 1) n)

    by_test : (b : Bool) → test first ≡ b → IsDistinct same (map f others)
        → IsDistinct same (map f (cond b (first ∷ others) others))
    by_test true p rest =
        IsDistinct-cons same (f first) (map f others)
        (recursion_from_All (λ (y : List ℕ). same (f first) y ≡ false) (map f others)
        (All-map (λ (y : List ℕ). same (f first) y ≡ false) f others
        (of_passing test (λ e. same (f first) (f e) ≡ false) (first + 1) n (λ e from to q. h first e (omega arith) (omega (arith, from)) (omega (arith, to)) p q)))) rest
    by_test false p rest = rest

-- more contests of one shape than lists leave no solution
pub pigeon_empty : (p : PartialDeck) (deck : List (List Bool)) (c : ℕ) → IsPartial p
    → IsSolution p deck → has_few_lists p c ≡ true → ⊥
pigeon_empty p deck c is solution h =
    let contests = p.contests in
    let parts = and_parts (nat_lt c (length contests)) (nat_lt (length (lists_of_totals p c)) (alike_count p c)) h in
    let alike : ℕ → Bool = λ d. has_shape_of (contest_at contests c) (contest_at contests d) in
    let numbers = range_with_len 0 (length contests) in
    let lists = map (totals_of contests deck) (filter alike numbers) in
    let all : contests ≡ map (contest_at contests) numbers = fill_by_all (contest_at contests) contests (length contests) no_contest refl (λ k lt. refl) in
    let count : length lists ≡ alike_count p c =
    length-map (filter alike numbers) (totals_of contests deck)
    ∙ (length-filter alike numbers
    ∙ (sym (count_map (contest_at contests) (has_shape_of (contest_at contests c)) numbers) ∙ ap (count_by (has_shape_of (contest_at contests c))) (sym all))) in
    let different = distinct (totals_of contests deck) alike 0 (length contests)
    (λ d e from lt to p1 p2.
    let shape = sym (same_shape (contest_at contests c) (contest_at contests d) p1) ∙ same_shape (contest_at contests c) (contest_at contests e) p2 in
    differ (totals_of contests deck d) (totals_of contests deck e) (lists_differ p deck d e is solution lt (omega (arith, to)) shape)) in
    let each = All-map (Contains (lists_of_totals p c)) (totals_of contests deck) (filter alike numbers)
    (of_passing alike (λ d. Contains (lists_of_totals p c) (totals_of contests deck d)) 0 (length contests)
    (λ d from to q. (is_member-Decides decides (lists_of_totals p c) (totals_of contests deck d)).0 (has_list p deck c d is solution (omega (arith, to)) q))) in
    let fewer = length-le_from_is_member nat_list_eq_equiv lists (lists_of_totals p c) different
    (λ q member. (is_member-Decides decides (lists_of_totals p c) q).1 (All-contains (Contains (lists_of_totals p c)) lists q each ((is_member-Decides decides lists q).0 member))) in
    omega (arith, fewer, count, ltb-true (length (lists_of_totals p c)) (alike_count p c) parts.1)
  where
    differ : (a b : List ℕ) → (a ≡ b → ⊥) → same a b ≡ false
    differ a b other = by_test (same a b) refl
      where
        by_test : (r : Bool) → same a b ≡ r → r ≡ false
        by_test true e = absurd (other ((decides a b).0 e))
        by_test false e = refl

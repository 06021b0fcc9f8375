-- The totals of a contest in a solution are at least its least totals.
use Rattle.std.proofs.Common.{◌≡◌, ◌+◌, ◌<◌, ◌≤◌, ◌||◌, ℕ, zero, suc, Bool, true, nat_lt, max, List, [], length, get_or, map, count_by, subst, refl, sym, ap, ◌∙◌, arith}
use Rattle.std.specs.List.{range_with_len, sum}
use Rattle.std.proofs.lemmas.List.Sums.{sum_by-cons}
use Rattle.std.proofs.lemmas.Bool.{and_parts, ltb-true, le-ltb}
use Rattle.lat_base.specs.Shape.{target_count, first_target, contest_at, contest_of}
use Rattle.lat_base.specs.Tally.{votes_for, own_total}
use Rattle.readings.proofs.Places.{IsOf, nth_is_of, contest_is, first_le, nth_within}
use Rattle.readings.proofs.TargetExchange.{totals_differ}
use Rattle.deck_state.specs.PartialDeck.{PartialDeck}
use Rattle.deck_state.specs.Trail.{IsPartial}
use Rattle.deck_state.specs.Votes.{lo, hi}
use Rattle.deck_state.proofs.Compared.{counts_le}
use Rattle.deck_state.proofs.Enclosed.{lo_le, le_hi, own_votes}
use Rattle.close_rules.specs.Totals.{is_above, least_rising, least_totals, highs, most_voting, has_no_totals}
use Rattle.close_rules.specs.Solution.{IsSolution}
use Rattle.close_rules.proofs.Passed.{second}
use Rattle.close_rules.proofs.Voting.{is_voting, few_voting, vote_is_voting}

-- no total of a solution is above the ballots that can vote in its contest
total_at_most : (p : PartialDeck) (deck : List (List Bool)) (c t : ℕ) → IsSolution p deck
    → IsOf p.contests c t → own_total p.contests deck t ≤ most_voting p c
total_at_most p deck c t solution of =
    let contests = p.contests in
    let t_in : t < target_count contests = omega (arith, of.to, first_le contests (c + 1)) in
    let voting = counts_le (λ ballot. votes_for contests ballot t) (is_voting contests (contest_of contests t)) deck deck [] [] refl
    (λ j lt votes. vote_is_voting contests (get_or deck j []) t t_in (solution.good.fits j [] lt) votes) in
    let same : count_by (is_voting contests (contest_of contests t)) deck ≡ count_by (is_voting contests c) deck = ap (λ (x : ℕ). count_by (is_voting contests x) deck) (contest_is contests c t of) in
    omega (arith, own_votes contests deck t solution.good.fits, voting, same, few_voting p deck c solution of.contest)

-- totals that rise from a number on, between the least and the greatest ones
pub record AreRising (low high : ℕ → ℕ) (most from t n : ℕ) (totals : ℕ → ℕ) : Type 0 where
  pub above : (i : ℕ) → i < n → low (t + i) ≤ totals (t + i)
  pub below : (i : ℕ) → i < n → totals (t + i) ≤ high (t + i)
  pub few : (i : ℕ) → i < n → totals (t + i) ≤ most
  pub rise : (i : ℕ) → i + 1 < n → totals (t + i) < totals (t + i + 1)
  pub begins : 0 < n → from ≤ totals t

-- what is known of the first of them, and of the rest
record IsFirst (low high : ℕ → ℕ) (most from t n : ℕ) (totals : ℕ → ℕ) : Type 0 where
  pub least : max from (low t) ≤ totals t
  pub below : totals t ≤ high t
  pub few : totals t ≤ most
  pub rest : AreRising low high most (max from (low t) + 1) (t + 1) n totals

first_of : (low high : ℕ → ℕ) (most from t n : ℕ) (totals : ℕ → ℕ)
    → AreRising low high most from t (suc n) totals → IsFirst low high most from t n totals
first_of low high most from t n totals are =
    let at : t + 0 ≡ t = omega arith in
    let above : low t ≤ totals t = subst (λ (x : ℕ). low x ≤ totals x) at (are.above 0 (omega arith)) in
    let least : max from (low t) ≤ totals t = larger from (low t) (totals t) (are.begins (omega arith)) above in
    record {
      least = least;
      below = subst (λ (x : ℕ). totals x ≤ high x) at (are.below 0 (omega arith));
      few = subst (λ (x : ℕ). totals x ≤ most) at (are.few 0 (omega arith));
      rest = record {
        above = λ i lt. subst (λ (x : ℕ). low x ≤ totals x) (next i) (are.above (i + 1) (omega (arith, lt)));
        below = λ i lt. subst (λ (x : ℕ). totals x ≤ high x) (next i) (are.below (i + 1) (omega (arith, lt)));
        few = λ i lt. subst (λ (x : ℕ). totals x ≤ most) (next i) (are.few (i + 1) (omega (arith, lt)));
        rise = λ i lt. subst (λ (x : ℕ). totals x < totals (x + 1)) (next i) (are.rise (i + 1) (omega (arith, lt)));
        begins = λ some. let up : totals t < totals (t + 1) = subst (λ (x : ℕ). totals x < totals (x + 1)) at (are.rise 0 (omega (arith, some))) in omega (arith, up, least);
      };
    }
  where
    larger : (a b total : ℕ) → a ≤ total → b ≤ total → max a b ≤ total
    larger a b total h k = omega arith

    next : (i : ℕ) → t + (i + 1) ≡ t + 1 + i
    next i = omega arith

-- of such totals, no least one is above what it can be
none_above : (low high : ℕ → ℕ) (most from t n : ℕ) (totals : ℕ → ℕ)
    → AreRising low high most from t n totals
    → is_above most (least_rising from (map low (range_with_len t n)))
    (map high (range_with_len t n)) ≡ true → ⊥
none_above low high most from t zero totals are h = cc
none_above low high most from t (suc n) totals are h =
    let first = first_of low high most from t n totals are in
    let x = max from (low t) in
    let rest = is_above most (least_rising (x + 1) (map low (range_with_len (t + 1) n))) (map high (range_with_len (t + 1) n)) in
    none_above low high most (x + 1) (t + 1) n totals first.rest
    (second (nat_lt most x) rest
    (second (nat_lt (high t) x) (nat_lt most x || rest) h (le-ltb (high t) x (omega (arith, first.least, first.below))))
    (le-ltb most x (omega (arith, first.least, first.few))))

-- and their sum is at least that of the least ones
pub least_sum : (low high : ℕ → ℕ) (most from t n : ℕ) (totals : ℕ → ℕ)
    → AreRising low high most from t n totals
    → sum (least_rising from (map low (range_with_len t n))) ≤ sum (map totals (range_with_len t n))
least_sum low high most from t zero totals are = omega arith
least_sum low high most from t (suc n) totals are =
    let first = first_of low high most from t n totals are in
    let x = max from (low t) in
    omega (
      arith,
      sum_by-cons (λ (m : ℕ). m) x (least_rising (x + 1) (map low (range_with_len (t + 1) n))),
      sum_by-cons (λ (m : ℕ). m) (totals t) (map totals (range_with_len (t + 1) n)),
      first.least,
      least_sum low high most (x + 1) (t + 1) n totals first.rest,
    )

-- the totals of a contest in a solution
pub are_rising : (p : PartialDeck) (deck : List (List Bool)) (c : ℕ) → IsPartial p
    → IsSolution p deck → c < length p.contests
    → AreRising (lo p) (hi p) (most_voting p c) p.rules.least (first_target p.contests c)
    (contest_at p.contests c).targets (own_total p.contests deck)
are_rising p deck c is solution h = record {
  above = λ i lt. lo_le p deck (first_target p.contests c + i) is solution.completion (nth_within p.contests c i h lt);
  below = λ i lt. le_hi p deck (first_target p.contests c + i) is solution.completion (nth_within p.contests c i h lt);
  few = λ i lt. total_at_most p deck c (first_target p.contests c + i) solution (nth_is_of p.contests c i h lt);
  rise = λ i lt.
      let first = first_target p.contests c in
      let here = nth_is_of p.contests c i h (omega (arith, lt)) in
      let there = subst (IsOf p.contests c) (next first i) (nth_is_of p.contests c (i + 1) h lt) in
      let up = solution.canonical.totals (first + i) (omega (arith, there.to, first_le p.contests (c + 1))) (contest_is p.contests c (first + i) here ∙ sym (contest_is p.contests c (first + i + 1) there)) in
      less_of (own_total p.contests deck (first + i)) (own_total p.contests deck (first + i + 1)) up
      (totals_differ p.contests deck c (first + i) (first + i + 1) solution.good.robust solution.good.fits here there (omega arith));
  begins = λ some. subst (λ (x : ℕ). p.rules.least ≤ own_total p.contests deck x) (at_start (first_target p.contests c)) (solution.good.obeys.least (first_target p.contests c + 0) (nth_within p.contests c 0 h some));
}
  where
    next : (a i : ℕ) → a + (i + 1) ≡ a + i + 1
    next a i = omega arith

    at_start : (a : ℕ) → a + 0 ≡ a
    at_start a = omega arith

    less_of : (x y : ℕ) → x ≤ y → (x ≡ y → ⊥) → x < y
    less_of x y le other = grind (arith, other)

-- a least total above what it can be leaves no solution
pub totals_empty : (p : PartialDeck) (deck : List (List Bool)) (c : ℕ) → IsPartial p
    → IsSolution p deck → has_no_totals p c ≡ true → ⊥
totals_empty p deck c is solution h =
    let parts = and_parts (nat_lt c (length p.contests)) (is_above (most_voting p c) (least_totals p c) (highs p c)) h in
    none_above (lo p) (hi p) (most_voting p c) p.rules.least (first_target p.contests c) (contest_at p.contests c).targets (own_total p.contests deck)
    (are_rising p deck c is solution (ltb-true c (length p.contests) parts.0)) parts.1

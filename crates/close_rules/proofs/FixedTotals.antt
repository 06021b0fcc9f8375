-- Contests whose totals are known have these totals in each solution.
use Rattle.std.proofs.Common.{◌≡◌, ◌+◌, ◌-◌, ◌<◌, ◌&&◌, ℕ, Bool, true, nat_lt, List, length, get_or, map, refl, ap, sym, ◌∙◌, arith}
use Rattle.std.specs.Prelude.{◌==◌}
use Rattle.std.specs.Cmp.Lexicographic.{slice_cmp}
use Rattle.std.specs.Ordering.{nat_cmp, is_eq, is_gt}
use Rattle.std.specs.declared.cmp.Ordering.{Ordering}
use Rattle.std.specs.declared.cmp.Ordering.TheVariants.{Less, Equal, Greater}
use Rattle.std.proofs.lemmas.List.{same_lists}
use Rattle.std.proofs.lemmas.List.FromFn.{get_or-map-range_with_len, length-map-range_with_len}
use Rattle.std.proofs.lemmas.Map.Lookups.{exact_bytes}
use Rattle.std.proofs.lemmas.Bool.{and_parts, ltb-true, eqb-true}
use Rattle.lat_base.specs.declared.contest.Contest.{Contest}
use Rattle.lat_base.specs.Shape.{target_count, first_target, contest_at, no_contest}
use Rattle.lat_base.specs.Misassignment.{identity}
use Rattle.lat_base.specs.Tally.{report, own_total}
use Rattle.lat_base.specs.Canonical.{totals_in}
use Rattle.readings.specs.Structural.{targets_of}
use Rattle.readings.proofs.Places.{first_next, first_le, nth_within}
use Rattle.readings.proofs.Reports.{alike}
use Rattle.readings.proofs.ContestExchange.{twins_differ}
use Rattle.deck_state.specs.PartialDeck.{PartialDeck}
use Rattle.deck_state.specs.Trail.{IsPartial}
use Rattle.deck_state.specs.Votes.{lo, hi}
use Rattle.deck_state.proofs.Compared.{slice_long, slice_at}
use Rattle.deck_state.proofs.Enclosed.{lo_le, le_hi}
use Rattle.close_rules.specs.Fixed.{lows, is_fixed, has_shape_of, are_comparable, are_twins, are_out_of_order}
use Rattle.close_rules.specs.Solution.{IsSolution}
use Rattle.close_rules.proofs.Passed.{at_number}

-- the totals of a contest, one by one
pub totals_are : (contests : List Contest) (deck : List (List Bool)) (c : ℕ) → c < length contests
    → totals_in contests deck c ≡ map (own_total contests deck) (targets_of contests c)
totals_are contests deck c h =
    let n = (contest_at contests c).targets in
    let first = first_target contests c in
    let next : first_target contests (c + 1) ≡ first + n = first_next contests c h in
    let all = report contests deck (identity (target_count contests)) in
    let all_long : length all ≡ target_count contests = length-map-range_with_len (own_total contests deck) 0 (target_count contests) in
    let long : length (totals_in contests deck c) ≡ n = slice_long all first (first_target contests (c + 1)) (omega (arith, all_long, first_le contests (c + 1))) ∙ omega (arith, next) in
    same_lists (totals_in contests deck c) (map (own_total contests deck) (targets_of contests c)) (long ∙ sym (length-map-range_with_len (own_total contests deck) first n))
    (λ i d lt.
    let i_in : i < n = omega (arith, lt, long) in
    slice_at all first (first_target contests (c + 1)) i d (omega (arith, i_in, next))
    ∙ (get_or-map-range_with_len (own_total contests deck) 0 (target_count contests) (first + i) (first + i) d (nth_within contests c i h i_in) (omega arith)
    ∙ sym (get_or-map-range_with_len (own_total contests deck) first n i (first + i) d i_in refl)))

-- the totals that are known are those of the deck
lows_are : (p : PartialDeck) (deck : List (List Bool)) (c : ℕ) → IsPartial p → IsSolution p deck
    → c < length p.contests → is_fixed p c ≡ true
    → lows p c ≡ map (own_total p.contests deck) (targets_of p.contests c)
lows_are p deck c is solution h fixed =
    let n = (contest_at p.contests c).targets in
    let first = first_target p.contests c in
    alike (lo p) (own_total p.contests deck) first n
    (λ t from to.
    let place : first + (t - first) ≡ t = omega (arith, from) in
    let i_in : t - first < n = omega (arith, from, to) in
    let t_in : t < target_count p.contests = omega (arith, place, nth_within p.contests c (t - first) h i_in) in
    let known : lo p t ≡ hi p t = eqb-true (lo p t) (hi p t) (ap (λ (u : ℕ). lo p u == hi p u) (sym place) ∙ at_number (λ u. lo p u == hi p u) first n (t - first) fixed i_in) in
    omega (arith, known, lo_le p deck t is solution.completion t_in, le_hi p deck t is solution.completion t_in))

-- two contests of one shape whose totals are known, and what is known of them
record AreKnown (p : PartialDeck) (deck : List (List Bool)) (c d : ℕ) : Type 0 where
  pub before : c < d
  pub first_in : c < length p.contests
  pub second_in : d < length p.contests
  pub shape : contest_at p.contests c ≡ contest_at p.contests d
  pub first : lows p c ≡ map (own_total p.contests deck) (targets_of p.contests c)
  pub second : lows p d ≡ map (own_total p.contests deck) (targets_of p.contests d)

pub same_shape : (c d : Contest) → has_shape_of c d ≡ true → c ≡ d
same_shape c d h =
    let parts = and_parts (c.limit == d.limit) (c.targets == d.targets) h in
    let limits = eqb-true c.limit d.limit parts.0 in
    let targets = eqb-true c.targets d.targets parts.1 in
    λ i. record { limit = limits i; targets = targets i }

are_known : (p : PartialDeck) (deck : List (List Bool)) (c d : ℕ) → IsPartial p → IsSolution p deck
    → are_comparable p c d ≡ true → AreKnown p deck c d
are_known p deck c d is solution h =
    let contests = p.contests in
    let shape = has_shape_of (contest_at contests c) (contest_at contests d) in
    let one = and_parts (nat_lt c d) (nat_lt d (length contests) && (shape && (is_fixed p c && is_fixed p d))) h in
    let two = and_parts (nat_lt d (length contests)) (shape && (is_fixed p c && is_fixed p d)) one.1 in
    let three = and_parts shape (is_fixed p c && is_fixed p d) two.1 in
    let four = and_parts (is_fixed p c) (is_fixed p d) three.1 in
    let before = ltb-true c d one.0 in
    let second_in = ltb-true d (length contests) two.0 in
    let first_in : c < length contests = omega (arith, before, second_in) in
    record {
      before = before;
      first_in = first_in;
      second_in = second_in;
      shape = same_shape (contest_at contests c) (contest_at contests d) three.0;
      first = lows_are p deck c is solution first_in four.0;
      second = lows_are p deck d is solution second_in four.1;
    }

compares_equal : (o : Ordering) → is_eq o ≡ true → o ≡ Equal
compares_equal Less h = cc
compares_equal Equal h = refl
compares_equal Greater h = cc

compares_greater : (o : Ordering) → is_gt o ≡ true → o ≡ Greater
compares_greater Less h = cc
compares_greater Equal h = cc
compares_greater Greater h = refl

-- two contests of one shape with the same totals leave no solution
pub twins_empty : (p : PartialDeck) (deck : List (List Bool)) (c d : ℕ) → IsPartial p
    → IsSolution p deck → are_twins p c d ≡ true → ⊥
twins_empty p deck c d is solution h =
    let contests = p.contests in
    let parts = and_parts (are_comparable p c d) (is_eq (slice_cmp nat_cmp (lows p c) (lows p d))) h in
    let known = are_known p deck c d is solution parts.0 in
    let same : lows p c ≡ lows p d = exact_bytes (lows p c) (lows p d) (compares_equal (slice_cmp nat_cmp (lows p c) (lows p d)) parts.1) in
    let lists : map (own_total contests deck) (targets_of contests c) ≡ map (own_total contests deck) (targets_of contests d) = sym known.first ∙ (same ∙ known.second) in
    twins_differ contests deck c d solution.good.robust solution.good.fits (omega (arith, known.before)) known.first_in known.second_in known.shape (is.shape.counts c no_contest known.first_in).0
    (λ i i_in.
    sym (get_or-map-range_with_len (own_total contests deck) (first_target contests c) (contest_at contests c).targets i (first_target contests c + i) 0 i_in refl)
    ∙ (ap (λ (totals : List ℕ). get_or totals i 0) lists
    ∙ get_or-map-range_with_len (own_total contests deck) (first_target contests d) (contest_at contests d).targets i (first_target contests d + i) 0 (omega (arith, i_in, ap (λ (x : Contest). x.targets) known.shape)) refl))

-- two contests of one shape, the earlier one with the greater totals, leave no solution
pub contest_order_empty : (p : PartialDeck) (deck : List (List Bool)) (c d : ℕ) → IsPartial p
    → IsSolution p deck → are_out_of_order p c d ≡ true → ⊥
contest_order_empty p deck c d is solution h =
    let contests = p.contests in
    let parts = and_parts (are_comparable p c d) (is_gt (slice_cmp nat_cmp (lows p c) (lows p d))) h in
    let known = are_known p deck c d is solution parts.0 in
    let first : totals_in contests deck c ≡ lows p c = totals_are contests deck c known.first_in ∙ sym known.first in
    let second : totals_in contests deck d ≡ lows p d = totals_are contests deck d known.second_in ∙ sym known.second in
    solution.canonical.earlier c d known.before known.second_in known.shape
    ((λ i. slice_cmp nat_cmp (first i) (second i)) ∙ compares_greater (slice_cmp nat_cmp (lows p c) (lows p d)) parts.1)

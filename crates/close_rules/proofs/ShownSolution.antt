-- A complete partial deck for which no reason holds shows a good canonical deck.
use Rattle.std.proofs.Common.{◌≡◌, ◌+◌, ◌-◌, ◌<◌, ◌&&◌, ℕ, zero, suc, Bool, true, false, nat_lt, length, ap, sym, subst, ◌∙◌, arith}
use Rattle.std.specs.Prelude.{◌==◌}
use Rattle.std.specs.Ordering.{nat_cmp, is_gt}
use Rattle.std.specs.Cmp.Lexicographic.{slice_cmp}
use Rattle.std.specs.declared.cmp.Ordering.TheVariants.{Greater}
use Rattle.std.proofs.lemmas.Bool.{lt-ltb, eq-eqb}
use Rattle.lat_base.specs.declared.contest.Contest.{Contest}
use Rattle.lat_base.specs.Shape.{target_count, first_target, contest_at, contest_of}
use Rattle.lat_base.specs.Tally.{own_total}
use Rattle.lat_base.specs.Canonical.{IsCanonical, totals_in}
use Rattle.lat_base.specs.Goodness.{IsRobust}
use Rattle.lat_base.specs.Rules.{Obeys}
use Rattle.readings.proofs.Places.{is_of, contest_is, nth_within}
use Rattle.readings.proofs.Reports.{alike}
use Rattle.deck_state.specs.PartialDeck.{PartialDeck}
use Rattle.deck_state.specs.Shown.{IsComplete, shown}
use Rattle.deck_state.specs.Trail.{IsPartial}
use Rattle.deck_state.specs.Votes.{lo, hi}
use Rattle.deck_state.proofs.ShownDecks.{shown_size, shown_fits, shown_agrees}
use Rattle.close_rules.specs.declared.reason.Reason.{Reason}
use Rattle.close_rules.specs.declared.reason.Reason.TheVariants.{Order, Totals, Blank, Over, ContestOrder}
use Rattle.close_rules.specs.Fixed.{lows, is_fixed, has_shape_of, are_comparable}
use Rattle.close_rules.specs.Refutes.{refutes, IsCheap}
use Rattle.close_rules.specs.Solution.{IsSolution}
use Rattle.close_rules.proofs.CompleteRows.{lo_is, hi_is}
use Rattle.close_rules.proofs.FixedTotals.{totals_are}
use Rattle.close_rules.proofs.Passed.{each_number, not_second}
use Rattle.close_rules.proofs.ShownRules.{blank_enough, over_enough, in_order}
use Rattle.close_rules.proofs.Unrefuted.{AreFine, totals_fine, totals_rise}

-- a complete partial deck for which no reason without a misassignment holds
pub record IsLeft (p : PartialDeck) : Type 0 where
  pub is : IsPartial p
  pub complete : IsComplete p
  pub none : (r : Reason) → IsCheap r → refutes p r ≡ false

fine : (p : PartialDeck) (t : ℕ) → IsLeft p → t < target_count p.contests → AreFine p t
fine p t left h = totals_fine p t left.is left.complete (λ c. left.none (Totals c) tt) h

rise : (p : PartialDeck) (t : ℕ) → IsLeft p → t + 1 < target_count p.contests
    → contest_of p.contests t ≡ contest_of p.contests (t + 1)
    → own_total p.contests (shown p) t < own_total p.contests (shown p) (t + 1)
rise p t left h same = totals_rise p t left.is left.complete (λ c. left.none (Totals c) tt) h same

-- the totals of later targets of a contest are greater
rise_far : (p : PartialDeck) (t k : ℕ) → IsLeft p → t + suc k < target_count p.contests
    → contest_of p.contests t ≡ contest_of p.contests (t + suc k)
    → own_total p.contests (shown p) t < own_total p.contests (shown p) (t + suc k)
rise_far p t zero left h same =
    let one : t + suc zero ≡ t + 1 = omega arith in
    subst (λ (u : ℕ). own_total p.contests (shown p) t < own_total p.contests (shown p) u) (sym one) (rise p t left (omega (arith, h)) (same ∙ ap (contest_of p.contests) one))
rise_far p t (suc k) left h same =
    let one : t + suc (suc k) ≡ t + suc k + 1 = omega arith in
    let before_in : t + suc k < target_count p.contests = omega (arith, h) in
    let of = is_of p.contests t (omega (arith, h)) in
    let last = subst (λ (c : ℕ). t + suc (suc k) < first_target p.contests (c + 1)) (sym same) (is_of p.contests (t + suc (suc k)) h).to in
    let here : contest_of p.contests (t + suc k) ≡ contest_of p.contests t = contest_is p.contests (contest_of p.contests t) (t + suc k) (record { contest = of.contest; from = omega (arith, of.from); to = omega (arith, last) }) in
    let up = rise p (t + suc k) left (omega (arith, h)) (here ∙ (same ∙ ap (contest_of p.contests) one)) in
    let whole : own_total p.contests (shown p) t < own_total p.contests (shown p) (t + suc k + 1) = omega (arith, up, rise_far p t k left before_in (sym here)) in
    subst (λ (u : ℕ). own_total p.contests (shown p) t < own_total p.contests (shown p) u) (sym one) whole

-- the deck obeys the rules
pub shown_obeys : (p : PartialDeck) → IsLeft p → Obeys p.contests p.rules (shown p)
shown_obeys p left = record {
  blank = blank_enough p (left.none Blank tt);
  over = λ c h can. over_enough p c left.is left.complete (left.none (Over c) tt) h can;
  least = λ t h. (fine p t left h).least;
  distinct = λ on t u lt h same equal.
      let far : t + suc (u - t - 1) ≡ u = omega (arith, lt) in
      let up = rise_far p t (u - t - 1) left (omega (arith, far, h)) (same ∙ ap (contest_of p.contests) (sym far)) in
      let more : own_total p.contests (shown p) t < own_total p.contests (shown p) u = subst (λ (v : ℕ). own_total p.contests (shown p) t < own_total p.contests (shown p) v) far up in
      omega (arith, more, equal);
}

-- its totals are known
pub low_known : (p : PartialDeck) (t : ℕ) → IsLeft p → t < target_count p.contests
    → lo p t ≡ own_total p.contests (shown p) t
low_known p t left h = let are = fine p t left h in omega (arith, lo_is p t left.is left.complete h, are.above)

pub high_known : (p : PartialDeck) (t : ℕ) → IsLeft p → t < target_count p.contests
    → hi p t ≡ own_total p.contests (shown p) t
high_known p t left h = let are = fine p t left h in omega (arith, hi_is p t left.is left.complete h, are.below)

fixed : (p : PartialDeck) (c : ℕ) → IsLeft p → c < length p.contests → is_fixed p c ≡ true
fixed p c left h =
    each_number (λ t. lo p t == hi p t) (first_target p.contests c) (contest_at p.contests c).targets
    (λ i lt. let t_in = nth_within p.contests c i h lt in
    eq-eqb (lo p (first_target p.contests c + i)) (hi p (first_target p.contests c + i)) (low_known p (first_target p.contests c + i) left t_in ∙ sym (high_known p (first_target p.contests c + i) left t_in)))

lows_known : (p : PartialDeck) (c : ℕ) → IsLeft p → c < length p.contests
    → totals_in p.contests (shown p) c ≡ lows p c
lows_known p c left h =
    totals_are p.contests (shown p) c h
    ∙ alike (own_total p.contests (shown p)) (lo p) (first_target p.contests c) (contest_at p.contests c).targets
    (λ t from to.
    let place : first_target p.contests c + (t - first_target p.contests c) ≡ t = omega (arith, from) in
    sym (low_known p t left (omega (arith, place, nth_within p.contests c (t - first_target p.contests c) h (omega (arith, from, to))))))

all_true : (a b c d e : Bool) → a ≡ true → b ≡ true → c ≡ true → d ≡ true → e ≡ true
    → (a && (b && (c && (d && e)))) ≡ true
all_true a b c d e h i j k l = λ x. h x && (i x && (j x && (k x && l x)))

shape_passes : (c d : Contest) → c ≡ d → has_shape_of c d ≡ true
shape_passes c d e = λ i. eq-eqb c.limit d.limit (ap (λ (x : Contest). x.limit) e) i && eq-eqb c.targets d.targets (ap (λ (x : Contest). x.targets) e) i

-- the deck is canonical
pub shown_canonical : (p : PartialDeck) → IsLeft p → IsCanonical p.contests (shown p)
shown_canonical p left = record {
  ballots = λ j h less. in_order p j left.is left.complete (left.none (Order j) tt) (omega (arith, h, shown_size p left.is)) less;
  totals = λ t h same. omega (arith, rise p t left h same);
  earlier = λ c d lt h shape greater.
      let c_in : c < length p.contests = omega (arith, lt, h) in
      let comparable = all_true (nat_lt c d) (nat_lt d (length p.contests)) (has_shape_of (contest_at p.contests c) (contest_at p.contests d)) (is_fixed p c) (is_fixed p d)
      (lt-ltb c d lt) (lt-ltb d (length p.contests) h) (shape_passes (contest_at p.contests c) (contest_at p.contests d) shape) (fixed p c left c_in) (fixed p d left h) in
      let first = lows_known p c left c_in in
      let second = lows_known p d left h in
      let compared : slice_cmp nat_cmp (lows p c) (lows p d) ≡ Greater = (λ i. slice_cmp nat_cmp (sym first i) (sym second i)) ∙ greater in
      let not_greater = not_second (are_comparable p c d) (is_gt (slice_cmp nat_cmp (lows p c) (lows p d))) (left.none (ContestOrder c d) tt) comparable in
      let bad : true ≡ false = ap is_gt (sym compared) ∙ not_greater in cc;
}

-- it is a solution, if it is robust
pub shown_solution : (p : PartialDeck) → IsPartial p → IsComplete p → IsRobust p.contests (shown p)
    → ((r : Reason) → IsCheap r → refutes p r ≡ false) → IsSolution p (shown p)
shown_solution p is complete robust none =
    let left : IsLeft p = record { is = is; complete = complete; none = none } in
    record {
      good = record { fits = shown_fits p is; robust = robust; obeys = shown_obeys p left };
      canonical = shown_canonical p left;
      completion = record {
        fits = shown_fits p is;
        size = shown_size p is;
        agrees = λ j t h k. shown_agrees p j t is complete h k;
        above = λ t h. (fine p t left h).above;
        below = λ t h. (fine p t left h).below;
      };
    }

-- and if not it still obeys the rules and is canonical
pub shown_left : (p : PartialDeck) → IsPartial p → IsComplete p
    → ((r : Reason) → IsCheap r → refutes p r ≡ false)
    → Obeys p.contests p.rules (shown p) × IsCanonical p.contests (shown p)
shown_left p is complete none =
    let left : IsLeft p = record { is = is; complete = complete; none = none } in
    (shown_obeys p left, shown_canonical p left)

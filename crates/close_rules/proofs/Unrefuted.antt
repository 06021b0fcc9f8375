-- A complete partial deck for which no reason holds shows a good canonical deck: totals.
use Rattle.std.proofs.Common.{◌≡◌, ◌+◌, ◌-◌, ◌<◌, ◌≤◌, ◌||◌, ℕ, zero, suc, Bool, true, false, nat_lt, max, length, map, refl, sym, subst, arith}
use Rattle.std.specs.List.{range_with_len}
use Rattle.std.proofs.lemmas.Bool.{lt-ltb, ltb-false}
use Rattle.lat_base.specs.Shape.{target_count, first_target, contest_at, contest_of}
use Rattle.lat_base.specs.Tally.{own_total}
use Rattle.readings.proofs.Places.{is_of, first_next}
use Rattle.deck_state.specs.PartialDeck.{PartialDeck, bounds_at}
use Rattle.deck_state.specs.Shown.{IsComplete, shown}
use Rattle.deck_state.specs.Trail.{IsPartial}
use Rattle.deck_state.specs.Votes.{lo, hi}
use Rattle.close_rules.specs.Totals.{is_above, least_rising, least_totals, highs, most_voting, has_no_totals}
use Rattle.close_rules.proofs.CompleteRows.{lo_is, hi_is}
use Rattle.close_rules.proofs.Passed.{not_second}

-- n totals from target t on can rise from a number on, between the least and the greatest ones
pub record CanRise (low high : ℕ → ℕ) (from t n : ℕ) : Type 0 where
  pub between : (i : ℕ) → i < n → low (t + i) ≤ high (t + i)
  pub begin : (i : ℕ) → i < n → from ≤ high (t + i)
  pub rise : (i : ℕ) → i + 1 < n → low (t + i) < high (t + (i + 1))

neither : (a b rest : Bool) → a || (b || rest) ≡ false → (a ≡ false) × (rest ≡ false)
neither true b rest h = cc
neither false true rest h = cc
neither false false rest h = (refl, h)

pub can_rise : (low high : ℕ → ℕ) (most from t n : ℕ)
    → is_above most (least_rising from (map low (range_with_len t n)))
    (map high (range_with_len t n)) ≡ false → CanRise low high from t n
can_rise low high most from t zero h = record { between = λ i lt. absurd (omega (arith, lt)); begin = λ i lt. absurd (omega (arith, lt)); rise = λ i lt. absurd (omega (arith, lt)) }
can_rise low high most from t (suc n) h =
    let x = max from (low t) in
    let rest = is_above most (least_rising (x + 1) (map low (range_with_len (t + 1) n))) (map high (range_with_len (t + 1) n)) in
    let parts = neither (nat_lt (high t) x) (nat_lt most x) rest h in
    let fits : x ≤ high t = ltb-false (high t) x parts.0 in
    let more = can_rise low high most (x + 1) (t + 1) n parts.1 in
    record {
      between = λ i lt. between i lt fits more;
      begin = λ i lt. begin i lt fits more;
      rise = λ i lt. rise i lt fits more;
    }
  where
    here : t + 0 ≡ t
    here = omega arith

    next : (i : ℕ) → t + 1 + i ≡ t + suc i
    next i = omega arith

    between : (i : ℕ) → i < suc n → max from (low t) ≤ high t
        → CanRise low high (max from (low t) + 1) (t + 1) n → low (t + i) ≤ high (t + i)
    between zero lt fits more = subst (λ (u : ℕ). low u ≤ high u) (sym here) (omega (arith, fits))
    between (suc i) lt fits more = subst (λ (u : ℕ). low u ≤ high u) (next i) (more.between i (omega (arith, lt)))

    begin : (i : ℕ) → i < suc n → max from (low t) ≤ high t
        → CanRise low high (max from (low t) + 1) (t + 1) n → from ≤ high (t + i)
    begin zero lt fits more = subst (λ (u : ℕ). from ≤ high u) (sym here) (omega (arith, fits))
    begin (suc i) lt fits more = subst (λ (u : ℕ). from ≤ high u) (next i) (omega (arith, more.begin i (omega (arith, lt))))

    rise : (i : ℕ) → i + 1 < suc n → max from (low t) ≤ high t
        → CanRise low high (max from (low t) + 1) (t + 1) n → low (t + i) < high (t + (i + 1))
    rise zero lt fits more =
        let one : t + 1 + 0 ≡ t + (0 + 1) = omega arith in
        let up : low t < high (t + (0 + 1)) = subst (λ (u : ℕ). low t < high u) one (omega (arith, more.begin 0 (omega (arith, lt)))) in
        subst (λ (u : ℕ). low u < high (t + (0 + 1))) (sym here) up
    rise (suc i) lt fits more =
        let one : t + 1 + (i + 1) ≡ t + (suc i + 1) = omega arith in
        subst (λ (u : ℕ). low (t + suc i) < high u) one (subst (λ (u : ℕ). low u < high (t + 1 + (i + 1))) (next i) (more.rise i (omega (arith, lt))))

-- what the totals of a complete partial deck are, where no contest lacks totals
pub record AreFine (p : PartialDeck) (t : ℕ) : Type 0 where
  pub above : (bounds_at p t).low ≤ own_total p.contests (shown p) t
  pub below : own_total p.contests (shown p) t ≤ (bounds_at p t).high
  pub least : p.rules.least ≤ own_total p.contests (shown p) t

contest_rises : (p : PartialDeck) (c : ℕ) → c < length p.contests → has_no_totals p c ≡ false
    → CanRise (lo p) (hi p) p.rules.least (first_target p.contests c)
    (contest_at p.contests c).targets
contest_rises p c h none =
    can_rise (lo p) (hi p) (most_voting p c) p.rules.least (first_target p.contests c) (contest_at p.contests c).targets
    (not_second (nat_lt c (length p.contests)) (is_above (most_voting p c) (least_totals p c) (highs p c)) none (lt-ltb c (length p.contests) h))

pub totals_fine : (p : PartialDeck) (t : ℕ) → IsPartial p → IsComplete p
    → ((c : ℕ) → has_no_totals p c ≡ false) → t < target_count p.contests → AreFine p t
totals_fine p t is complete none h =
    let c = contest_of p.contests t in
    let of = is_of p.contests t h in
    let first = first_target p.contests c in
    let can = contest_rises p c of.contest (none c) in
    let place : first + (t - first) ≡ t = omega (arith, of.from) in
    let i_in : t - first < (contest_at p.contests c).targets = omega (arith, of.from, of.to, first_next p.contests c of.contest) in
    let between : lo p t ≤ hi p t = subst (λ (u : ℕ). lo p u ≤ hi p u) place (can.between (t - first) i_in) in
    let begin : p.rules.least ≤ hi p t = subst (λ (u : ℕ). p.rules.least ≤ hi p u) place (can.begin (t - first) i_in) in
    let low = lo_is p t is complete h in
    let high = hi_is p t is complete h in
    record { above = omega (arith, between, low, high); below = omega (arith, between, low, high); least = omega (arith, begin, high) }

-- the totals of a contest rise
pub totals_rise : (p : PartialDeck) (t : ℕ) → IsPartial p → IsComplete p
    → ((c : ℕ) → has_no_totals p c ≡ false) → t + 1 < target_count p.contests
    → contest_of p.contests t ≡ contest_of p.contests (t + 1)
    → own_total p.contests (shown p) t < own_total p.contests (shown p) (t + 1)
totals_rise p t is complete none h same =
    let c = contest_of p.contests t in
    let t_in : t < target_count p.contests = omega (arith, h) in
    let of = is_of p.contests t t_in in
    let next = subst (λ (d : ℕ). t + 1 < first_target p.contests (d + 1)) (sym same) (is_of p.contests (t + 1) h).to in
    let first = first_target p.contests c in
    let can = contest_rises p c of.contest (none c) in
    let place : first + (t - first) ≡ t = omega (arith, of.from) in
    let after : first + (t - first + 1) ≡ t + 1 = omega (arith, of.from) in
    let i_in : t - first + 1 < (contest_at p.contests c).targets = omega (arith, of.from, next, first_next p.contests c of.contest) in
    let up : lo p t < hi p (t + 1) = subst (λ (u : ℕ). lo p u < hi p (t + 1)) place (subst (λ (u : ℕ). lo p (first + (t - first)) < hi p u) after (can.rise (t - first) i_in)) in
    omega (arith, up, lo_is p t is complete t_in, hi_is p (t + 1) is complete h)

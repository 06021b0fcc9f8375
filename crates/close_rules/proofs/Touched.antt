-- The contests that a misassignment touches, and those that it leaves.
use Rattle.std.proofs.Common.{◌≡◌, ◌+◌, ◌-◌, ◌<◌, ◌&&◌, ℕ, Bool, true, false, not, nat_lt, List, length, get_or, count_by, refl, ap, sym, subst, ◌∙◌, arith}
use Rattle.std.specs.List.{list_all, range_with_len}
use Rattle.std.proofs.lemmas.List.FromFn.{get_or-range_with_len, length-range_with_len}
use Rattle.std.proofs.lemmas.Bool.{and_parts, eqb-true}
use Rattle.lat_base.specs.declared.contest.Contest.{Contest}
use Rattle.lat_base.specs.Shape.{target_count, first_target, contest_at, contest_of}
use Rattle.lat_base.specs.Misassignment.{IsMisassignment, source}
use Rattle.lat_base.specs.Tally.{mark_count, votes_for}
use Rattle.lat_base.specs.Tally as tally
use Rattle.readings.specs.Structural.{targets_of}
use Rattle.readings.proofs.Places.{is_of, contest_is, nth_is_of, first_next, first_le}
use Rattle.lemmas.proofs.Counting.{count_alike, count_map}
use Rattle.readings.proofs.Marks.{marks_are}
use Rattle.deck_state.specs.PartialDeck.{PartialDeck}
use Rattle.close_rules.specs.Evading.{stays, keeps_totals, is_left, keeps_contest, is_misassignment, evades}
use Rattle.close_rules.proofs.Misassigned.{passed_is}
use Rattle.close_rules.proofs.Passed.{at_number, second}

-- a vote rests on the marks of one contest
pub votes_alike : (contests : List Contest) (a b : List Bool) (u : ℕ) → u < target_count contests
    → length a ≡ target_count contests → length b ≡ target_count contests
    → ((v : ℕ) → v < target_count contests → contest_of contests v ≡ contest_of contests u
    → tally.is_marked a v ≡ tally.is_marked b v) → votes_for contests a u ≡ votes_for contests b u
votes_alike contests a b u h a_long b_long same =
    let c = contest_of contests u in
    let c_in = (is_of contests u h).contest in
    let left = ap (count_by (λ (m : Bool). m)) (marks_are contests a c c_in a_long) ∙ count_map (λ (t : ℕ). tally.is_marked a t) (λ (m : Bool). m) (targets_of contests c) in
    let right = ap (count_by (λ (m : Bool). m)) (marks_are contests b c c_in b_long) ∙ count_map (λ (t : ℕ). tally.is_marked b t) (λ (m : Bool). m) (targets_of contests c) in
    let step = count_alike (λ (t : ℕ). tally.is_marked a t) (λ (t : ℕ). tally.is_marked b t) (targets_of contests c)
    (λ k d lt.
    let k_in : k < (contest_at contests c).targets = omega (arith, lt, length-range_with_len (first_target contests c) (contest_at contests c).targets) in
    let of = nth_is_of contests c k c_in k_in in
    let at : get_or (targets_of contests c) k d ≡ first_target contests c + k = get_or-range_with_len (first_target contests c) (contest_at contests c).targets k d k_in in
    subst (λ (v : ℕ). tally.is_marked a v ≡ tally.is_marked b v) (sym at) (same (first_target contests c + k) (omega (arith, of.to, first_le contests (c + 1))) (contest_is contests c (first_target contests c + k) of))) in
    let counts : mark_count contests a c ≡ mark_count contests b c = left ∙ (step ∙ sym right) in
    let mark = same u h refl in
    λ i. mark i && not (nat_lt (contest_at contests c).limit (counts i))

-- what is known of a misassignment and the contests that it touches
pub record Touches (p : PartialDeck) (s : List ℕ) : Type 0 where
  pub is : IsMisassignment (target_count p.contests) s
  pub left : (u : ℕ) → u < target_count p.contests
      → is_left p.contests s (contest_of p.contests u) ≡ true → source s u ≡ u
  pub kept : (u : ℕ) → u < target_count p.contests
      → is_left p.contests s (contest_of p.contests u) ≡ false
      → keeps_totals p s (contest_of p.contests u) ≡ true

-- a test of the targets of a contest, at one of them
pub at_target : (contests : List Contest) (test : ℕ → Bool) (u : ℕ) → u < target_count contests
    → list_all test (targets_of contests (contest_of contests u)) ≡ true → test u ≡ true
at_target contests test u h all =
    let of = is_of contests u h in
    let first = first_target contests (contest_of contests u) in
    let place : first + (u - first) ≡ u = omega (arith, of.from) in
    ap test (sym place) ∙ at_number test first (contest_at contests (contest_of contests u)).targets (u - first) all (omega (arith, of.from, of.to, first_next contests (contest_of contests u) of.contest))

pub touches : (p : PartialDeck) (s : List ℕ) → evades p s ≡ true → Touches p s
touches p s h =
    let n = target_count p.contests in
    let rest = not (list_all (stays s) (range_with_len 0 n)) && list_all (keeps_contest p s) (range_with_len 0 (length p.contests)) in
    let one = and_parts (is_misassignment n s) rest h in
    let two = and_parts (not (list_all (stays s) (range_with_len 0 n))) (list_all (keeps_contest p s) (range_with_len 0 (length p.contests))) one.1 in
    record {
      is = passed_is n s one.0;
      left = λ u lt left. eqb-true (source s u) u (at_target p.contests (stays s) u lt left);
      kept = λ u lt left.
          let c = contest_of p.contests u in
          let here : 0 + c ≡ c = omega arith in
          let test = ap (keeps_contest p s) (sym here) ∙ at_number (keeps_contest p s) 0 (length p.contests) c two.1 (is_of p.contests u lt).contest in
          second (is_left p.contests s c) (keeps_totals p s c) test left;
    }

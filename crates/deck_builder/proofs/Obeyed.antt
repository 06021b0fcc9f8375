-- The deck of a pattern that fits obeys the rules.
use Rattle.std.proofs.Common.{◌≡◌, ◌+◌, ◌-◌, ◌*◌, ◌<◌, ◌++◌, ℕ, Bool, true, false, not, List, length, get_or, cond, count_by, subst, ap, sym, ◌∙◌, arith}
use Rattle.std.specs.List.{range_with_len}
use Rattle.std.proofs.lemmas.List.{length-replicate}
use Rattle.std.proofs.lemmas.List.Elements.{All-append, All-map, All-replicate}
use Rattle.std.proofs.lemmas.List.Sums.{sum_by-append}
use Rattle.lat_base.specs.Deck.{Fits as FitTargets}
use Rattle.lat_base.specs.Misassignment.{identity}
use Rattle.lat_base.specs.Rules.{Obeys, is_blank}
use Rattle.lat_base.specs.Shape.{target_count, first_target, contest_at, contest_of}
use Rattle.lat_base.specs.Tally.{is_overvoted, reading, votes_for, own_total}
use Rattle.lemmas.proofs.Counting.{count_alike, count_map}
use Rattle.readings.proofs.Places.{IsOf, is_of, nth_is_of, nth_within, contest_is, first_next}
use Rattle.readings.proofs.Readings.{reading_identity}
use Rattle.symmetry.proofs.Copies.{copies_that, all_copies, no_copies, full_overvoted, full_votes as votes_of_full, unmarked_blank, unmarked_votes}
use Rattle.deck_builder.specs.Pattern.{Pattern, Fits, FitsContest, mark_total, place, is_laid, working_ballot, pattern_ballots}
use Rattle.deck_builder.proofs.PatternRows.{full, unmarked, over_rows, working_rows, blank_rows}
use Rattle.deck_builder.proofs.Raised.{few_marks, least_marks, marks_rise}
use Rattle.deck_builder.proofs.Rounds.{spread}
use Rattle.deck_builder.proofs.WorkingRows.{working_long, working_votes}

in_three : (f : List Bool → Bool) (p : Pattern)
    → count_by f (pattern_ballots p)
    ≡ count_by f (over_rows p) + count_by f (working_rows p) + count_by f (blank_rows p)
in_three f p =
    omega (arith, sum_by-append (λ (b : List Bool). cond (f b) 1 0) (over_rows p ++ working_rows p) (blank_rows p), sum_by-append (λ (b : List Bool). cond (f b) 1 0) (over_rows p) (working_rows p))

-- each ballot has a mark or none for each target
pub fit : (p : Pattern) → FitTargets (target_count p.contests) (pattern_ballots p)
fit p =
    let long : List Bool → Type 0 = λ b. length b ≡ target_count p.contests in
    All-append long (over_rows p ++ working_rows p) (blank_rows p)
    (All-append long (over_rows p) (working_rows p) (All-replicate long p.rules.over (full p) (length-replicate (target_count p.contests) true))
    (All-map long (working_ballot p) (range_with_len 0 p.working) (λ i d lt. working_long p (get_or (range_with_len 0 p.working) i d))))
    (All-replicate long p.rules.blank (unmarked p) (length-replicate (target_count p.contests) false))

-- votes ballot by ballot
own : (p : Pattern) (t : ℕ) → own_total p.contests (pattern_ballots p) t
    ≡ count_by (λ ballot. votes_for p.contests ballot t) (pattern_ballots p)
own p t =
    count_alike (λ (b : List Bool). votes_for p.contests (reading b (identity (target_count p.contests))) t) (λ (b : List Bool). votes_for p.contests b t) (pattern_ballots p)
    (λ j d lt. ap (λ (b : List Bool). votes_for p.contests b t) (reading_identity (get_or (pattern_ballots p) j d) (target_count p.contests) (fit p j d lt)))

-- the votes that wholly marked ballots give in contest c
abbrev full_votes : Pattern → ℕ → ℕ
full_votes p c = p.rules.over * cond (not (is_overvoted p.contests (full p) c)) 1 0

-- the total of target i of contest c
total_is : (p : Pattern) (c i : ℕ) → c < length p.contests → FitsContest p c
    → i < (contest_at p.contests c).targets
    → own_total p.contests (pattern_ballots p) (first_target p.contests c + i)
    ≡ full_votes p c + mark_total p c i
total_is p c i h fits lt =
    let t = first_target p.contests c + i in
    let votes : List Bool → Bool = λ b. votes_for p.contests b t in
    let t_in = nth_within p.contests c i h lt in
    let of : contest_of p.contests t ≡ c = contest_is p.contests c t (nth_is_of p.contests c i h lt) in
    let whole : votes (full p) ≡ not (is_overvoted p.contests (full p) c) = votes_of_full p.contests t t_in ∙ ap (λ (x : ℕ). not (is_overvoted p.contests (full p) x)) of in
    let over : count_by votes (over_rows p) ≡ full_votes p c = copies_that votes p.rules.over (full p) (not (is_overvoted p.contests (full p) c)) whole in
    let working : count_by votes (working_rows p) ≡ mark_total p c i =
    count_map (working_ballot p) votes (range_with_len 0 p.working)
    ∙ (count_alike (λ b. votes (working_ballot p b)) (is_laid p.working (place p c i) (mark_total p c i)) (range_with_len 0 p.working) (λ j d within. working_votes p (get_or (range_with_len 0 p.working) j d) c i h fits lt)
    ∙ spread p.working (place p c i) (mark_total p c i) (few_marks p c i fits lt)) in
    omega (arith, own p t, in_three votes p, over, working, no_copies votes p.rules.blank (unmarked p) (unmarked_votes p.contests t t_in))

-- each target by its place in its contest
record IsPlace (p : Pattern) (c t : ℕ) : Type 0 where
  pub contest : c < length p.contests
  pub within : t - first_target p.contests c < (contest_at p.contests c).targets
  pub at : t ≡ first_target p.contests c + (t - first_target p.contests c)

place_of : (p : Pattern) (c t : ℕ) → IsOf p.contests c t → IsPlace p c t
place_of p c t of = record {
  contest = of.contest;
  within = omega (arith, of.from, of.to, first_next p.contests c of.contest);
  at = omega (arith, of.from);
}

total_at : (p : Pattern) (c t : ℕ) → Fits p → IsPlace p c t
    → own_total p.contests (pattern_ballots p) t
    ≡ full_votes p c + mark_total p c (t - first_target p.contests c)
total_at p c t fits is = ap (own_total p.contests (pattern_ballots p)) is.at ∙ total_is p c (t - first_target p.contests c) is.contest (fits c is.contest) is.within

pub obeyed : (p : Pattern) → Fits p → Obeys p.contests p.rules (pattern_ballots p)
obeyed p fits = record {
  blank =
      omega (arith, in_three is_blank p, all_copies is_blank p.rules.blank (unmarked p) (unmarked_blank p.contests));
  over = λ c h can.
      omega (arith, in_three (λ b. is_overvoted p.contests b c) p, all_copies (λ b. is_overvoted p.contests b c) p.rules.over (full p) (full_overvoted p.contests c h can));
  least = λ t h.
      let c = contest_of p.contests t in
      omega (arith, total_at p c t fits (place_of p c t (is_of p.contests t h)), least_marks p c (t - first_target p.contests c));
  distinct = λ asked t u lt h same equal.
      let c = contest_of p.contests t in
      let first = place_of p c t (is_of p.contests t (omega (arith, lt, h))) in
      let second = place_of p c u (subst (λ (x : ℕ). IsOf p.contests x u) (sym same) (is_of p.contests u h)) in
      omega (
        arith,
        equal,
        total_at p c t fits first,
        total_at p c u fits second,
        marks_rise p c (t - first_target p.contests c) (u - first_target p.contests c) (omega (arith, lt, first.at, second.at)) second.within,
      );
}

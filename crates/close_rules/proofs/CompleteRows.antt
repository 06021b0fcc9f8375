-- Rows of which each mark is decided.
use Rattle.std.proofs.Common.{◌≡◌, ◌+◌, ◌-◌, ◌<◌, ◌≤◌, ◌&&◌, ℕ, Bool, true, false, not, cond, nat_lt, nat_le, min, max, List, [], length, get_or, map, refl, ap, sym, ◌∙◌, arith}
use Rattle.std.proofs.lemmas.List.{get_or-map, get_or_default}
use Rattle.std.proofs.lemmas.Bool.Decides.{nat_tests}
use Rattle.lat_base.specs.declared.contest.Contest.{Contest}
use Rattle.lat_base.specs.Shape.{target_count, first_target, contest_of}
use Rattle.lat_base.specs.Tally.{mark_count, votes_for, own_total}
use Rattle.lat_base.specs.Tally as tally
use Rattle.lemmas.proofs.Counting.{count_alike}
use Rattle.readings.proofs.Places.{first_le}
use Rattle.deck_state.specs.declared.mark.Mark.{Mark}
use Rattle.deck_state.specs.declared.mark.Mark.TheVariants.{Marked, Unmarked, Undecided}
use Rattle.deck_state.specs.Mark.{is_marked, may_be_marked, is_undecided}
use Rattle.deck_state.specs.PartialDeck.{PartialDeck, bounds_at}
use Rattle.deck_state.specs.Shown.{IsComplete, shown}
use Rattle.deck_state.specs.Trail.{IsPartial}
use Rattle.deck_state.specs.Votes.{marks_in, marked_in, possible_in, limit_of, others_marked, surely_votes_for, possibly_votes_for, sure_votes, possible_votes, lo, hi}
use Rattle.deck_state.proofs.Compared.{counts_same, slice_long, slice_at}
use Rattle.deck_state.proofs.Enclosed.{limit_some}
use Rattle.deck_state.proofs.Room.{row_long}
use Rattle.close_rules.proofs.RowVotes.{row_marks, shown_own}

-- a row of n marks that are decided
pub record IsDecidedRow (n : ℕ) (row : List Mark) : Type 0 where
  pub long : length row ≡ n
  pub decided : (t : ℕ) → t < n → is_undecided (get_or row t Undecided) ≡ false

-- the rows of a complete partial deck
pub decided_row : (p : PartialDeck) (j : ℕ) (d : List Mark) → IsPartial p → IsComplete p
    → j < p.ballots → IsDecidedRow (target_count p.contests) (get_or p.marks j d)
decided_row p j d is complete h =
    let same : get_or p.marks j d ≡ get_or p.marks j [] = get_or_default p.marks j d [] (omega (arith, h, is.height)) in
    record {
      long = ap length same ∙ row_long p j is h;
      decided = λ t lt. ap (λ (row : List Mark). is_undecided (get_or row t Undecided)) same ∙ complete j t h lt;
    }

marked_or_not : (mark : Mark) → is_undecided mark ≡ false → may_be_marked mark ≡ is_marked mark
marked_or_not Marked h = refl
marked_or_not Unmarked h = refl
marked_or_not Undecided h = cc

-- as many targets are marked as may be
pub possible_is : (contests : List Contest) (row : List Mark) (c : ℕ)
    → IsDecidedRow (target_count contests) row
    → possible_in contests row c ≡ marked_in contests row c
possible_is contests row c is =
    let first = first_target contests c in
    let last = first_target contests (c + 1) in
    let within = first_le contests (c + 1) in
    let long : length (marks_in contests row c) ≡ last - first = slice_long row first last (omega (arith, within, is.long)) in
    counts_same may_be_marked is_marked (marks_in contests row c) (marks_in contests row c) Undecided Undecided refl
    (λ i lt.
    let i_in : i < last - first = omega (arith, lt, long) in
    let at : get_or (marks_in contests row c) i Undecided ≡ get_or row (first + i) Undecided = slice_at row first last i Undecided i_in in
    marked_or_not (get_or (marks_in contests row c) i Undecided) (ap is_undecided at ∙ is.decided (first + i) (omega (arith, i_in, within))))

same_tests : (a b : ℕ) → nat_le b a ≡ not (nat_lt a b)
same_tests a b = grind (arith, nat_tests)

-- a row surely votes for the targets that its ballot votes for
sure_is : (contests : List Contest) (row : List Mark) (t : ℕ) → t < target_count contests
    → IsDecidedRow (target_count contests) row
    → surely_votes_for contests row t ≡ votes_for contests (map is_marked row) t
sure_is contests row t h is =
    let c = contest_of contests t in
    let mark : is_marked (get_or row t Undecided) ≡ tally.is_marked (map is_marked row) t = sym (get_or-map is_marked row t Undecided false (omega (arith, h, is.long))) in
    let count : possible_in contests row c ≡ mark_count contests (map is_marked row) c = possible_is contests row c is ∙ sym (row_marks contests row c) in
    (λ i. mark i && nat_le (count i) (limit_of contests t)) ∙ ap (λ (b : Bool). tally.is_marked (map is_marked row) t && b) (same_tests (limit_of contests t) (mark_count contests (map is_marked row) c))

-- and possibly
possible_vote_is : (contests : List Contest) (row : List Mark) (t : ℕ) → t < target_count contests
    → 1 ≤ limit_of contests t → IsDecidedRow (target_count contests) row
    → possibly_votes_for contests row t ≡ votes_for contests (map is_marked row) t
possible_vote_is contests row t h some is =
    let c = contest_of contests t in
    let here : may_be_marked (get_or row t Undecided) ≡ is_marked (get_or row t Undecided) = marked_or_not (get_or row t Undecided) (is.decided t h) in
    let mark : is_marked (get_or row t Undecided) ≡ tally.is_marked (map is_marked row) t = sym (get_or-map is_marked row t Undecided false (omega (arith, h, is.long))) in
    (λ i. here i && nat_lt (others_marked contests row t) (limit_of contests t))
    ∙ (by_mark (is_marked (get_or row t Undecided)) (marked_in contests row c)
    ∙ (λ i. mark i && not (nat_lt (limit_of contests t) (sym (row_marks contests row c) i))))
  where
    fits : (a : ℕ) → nat_lt (a - 1) (limit_of contests t) ≡ not (nat_lt (limit_of contests t) a)
    fits a = grind (arith, nat_tests, some)

    by_mark : (b : Bool) (a : ℕ) → (b && nat_lt (a - cond b 1 0) (limit_of contests t))
        ≡ (b && not (nat_lt (limit_of contests t) a))
    by_mark true a = fits a
    by_mark false a = refl

-- the sure and the possible votes of a target are its total
pub sure_total : (p : PartialDeck) (t : ℕ) → IsPartial p → IsComplete p
    → t < target_count p.contests → sure_votes p t ≡ own_total p.contests (shown p) t
sure_total p t is complete h =
    count_alike (λ (row : List Mark). surely_votes_for p.contests row t) (λ (row : List Mark). votes_for p.contests (map is_marked row) t) p.marks
    (λ j d lt. sure_is p.contests (get_or p.marks j d) t h (decided_row p j d is complete (omega (arith, lt, is.height))))
    ∙ shown_own p t is

pub possible_total : (p : PartialDeck) (t : ℕ) → IsPartial p → IsComplete p
    → t < target_count p.contests → possible_votes p t ≡ own_total p.contests (shown p) t
possible_total p t is complete h =
    count_alike (λ (row : List Mark). possibly_votes_for p.contests row t) (λ (row : List Mark). votes_for p.contests (map is_marked row) t) p.marks
    (λ j d lt. possible_vote_is p.contests (get_or p.marks j d) t h (limit_some p.contests t is.shape h) (decided_row p j d is complete (omega (arith, lt, is.height))))
    ∙ shown_own p t is

-- the least and the greatest total of a target are its total, if the bounds are
pub lo_is : (p : PartialDeck) (t : ℕ) → IsPartial p → IsComplete p → t < target_count p.contests
    → lo p t ≡ max (bounds_at p t).low (own_total p.contests (shown p) t)
lo_is p t is complete h = ap (max (bounds_at p t).low) (sure_total p t is complete h)

pub hi_is : (p : PartialDeck) (t : ℕ) → IsPartial p → IsComplete p → t < target_count p.contests
    → hi p t ≡ min (bounds_at p t).high (own_total p.contests (shown p) t)
hi_is p t is complete h = ap (min (bounds_at p t).high) (possible_total p t is complete h)

-- Votes of a row of marks, undecided ones being none.
use Rattle.std.proofs.Common.{◌≡◌, ◌+◌, ◌-◌, ◌<◌, ◌≤◌, ◌&&◌, ℕ, Bool, true, false, not, nat_lt, nat_le, List, length, take, drop, get_or, cond, count_by, map, ap, sym, ◌∙◌, arith}
use mir.Val.{bool_byte}
use Rattle.std.specs.Prelude.{slice_range}
use Rattle.std.proofs.lemmas.List.{get_or-map, drop-map, take-map}
use Rattle.std.proofs.lemmas.Bool.Decides.{nat_tests}
use Rattle.lat_base.specs.declared.contest.Contest.{Contest}
use Rattle.lat_base.specs.Shape.{first_target, contest_at, contest_of}
use Rattle.lat_base.specs.Misassignment.{source}
use Rattle.lat_base.specs.Tally.{mark_count, votes_for, reading, own_total, total}
use Rattle.lat_base.specs.Tally as tally
use Rattle.deck_state.proofs.Seen.{byte_is}
use Rattle.lat_misassign.specs.Sources.{AreSources}
use Rattle.lemmas.proofs.Counting.{count_map}
use Rattle.readings.proofs.Grouped.{slice_more}
use Rattle.readings.proofs.Readings.{reading_at, reading_long}
use Rattle.readings.proofs.Within.{source_within}
use Rattle.deck_state.specs.declared.mark.Mark.{Mark}
use Rattle.deck_state.specs.Mark.{is_marked}
use Rattle.deck_state.specs.PartialDeck.{PartialDeck}
use Rattle.deck_state.specs.Trail.{IsPartial}
use Rattle.deck_state.specs.Shown.{shown}
use Rattle.deck_state.specs.Votes.{marked_in}
use Rattle.deck_state.proofs.Enclosed.{own_votes}
use Rattle.deck_state.proofs.ShownDecks.{shown_fits}

-- a source is the place of a mark
pub source_in : (n : ℕ) (s : List ℕ) (row : List Mark) (u x : ℕ) → AreSources s → length s ≡ n
    → length row ≡ n → u < n → x ≡ source s u → x < length row
source_in n s row u x are long wide h is = omega (arith, is, long, wide, source_within (length s) s are.is u (omega (arith, h, long)))

-- the mark of u as a row is read
pub read_mark : (s : List ℕ) (row : List Mark) (u x : ℕ) (d : Mark) → u < length s → x < length row
    → x ≡ source s u → tally.is_marked (reading (map is_marked row) s) u
    ≡ is_marked (get_or row x d)
read_mark s row u x d h k is =
    reading_at (map is_marked row) s u h ∙ (ap (λ (y : ℕ). tally.is_marked (map is_marked row) y) (sym is) ∙ get_or-map is_marked row x d false k)

-- one more mark as a row is read
pub read_more : (s : List ℕ) (row : List Mark) (first u count one : ℕ) (mark : Bool) → first ≤ u
    → u < length s → count ≡ count_by (λ m. m) (slice_range (reading (map is_marked row) s) first u)
    → one ≡ bool_byte mark → tally.is_marked (reading (map is_marked row) s) u ≡ mark
    → count + one ≡ count_by (λ m. m) (slice_range (reading (map is_marked row) s) first (u + 1))
read_more s row first u count one mark from h so_far is here =
    let read = reading (map is_marked row) s in
    let more = slice_more read first u from (omega (arith, h, reading_long (map is_marked row) s)) in
    let same : ◌≡◌ {A = ℕ} (cond (get_or read u false) 1 0) (cond mark 1 0) = ap (λ (b : Bool). cond b 1 0) here in
    omega (arith, so_far, is, byte_is mark, more, same)

-- a row's marks in a contest are those of its ballot
pub row_marks : (contests : List Contest) (row : List Mark) (c : ℕ)
    → mark_count contests (map is_marked row) c ≡ marked_in contests row c
row_marks contests row c =
    let first = first_target contests c in
    let last = first_target contests (c + 1) in
    ap (λ (marks : List Bool). count_by (λ m. m) (take (last - first) marks)) (drop-map is_marked first row)
    ∙ (ap (count_by (λ (m : Bool). m)) (take-map is_marked (last - first) (drop first row)) ∙ count_map is_marked (λ (m : Bool). m) (slice_range row first last))

-- a vote for a target that is marked
pub vote_is : (contests : List Contest) (ballot : List Bool) (u c limit count : ℕ)
    → c ≡ contest_of contests u → tally.is_marked ballot u ≡ true
    → limit ≡ (contest_at contests c).limit → count ≡ mark_count contests ballot c
    → nat_le count limit ≡ votes_for contests ballot u
vote_is contests ballot u c limit count of marked limit_is count_is =
    same limit count
    ∙ ((λ i. sym marked i && not (nat_lt (limit_is i) (count_is i)))
    ∙ ap (λ (x : ℕ). tally.is_marked ballot u && not (nat_lt (contest_at contests x).limit (mark_count contests ballot x))) of)
  where
    same : (a b : ℕ) → nat_le b a ≡ not (nat_lt a b)
    same a b = grind (arith, nat_tests)

-- no vote for one that isn't
pub no_vote : (contests : List Contest) (ballot : List Bool) (u : ℕ) (mark : Bool)
    → tally.is_marked ballot u ≡ false → mark ≡ false → mark ≡ votes_for contests ballot u
no_vote contests ballot u mark none e = e ∙ (λ i. sym none i && not (nat_lt (contest_at contests (contest_of contests u)).limit (mark_count contests ballot (contest_of contests u))))

-- totals over the rows that a partial deck shows
pub shown_total : (p : PartialDeck) (s : List ℕ) (u : ℕ)
    → count_by (λ row. votes_for p.contests (reading (map is_marked row) s) u) p.marks
    ≡ total p.contests (shown p) s u
shown_total p s u = sym (count_map (λ (row : List Mark). map is_marked row) (λ (ballot : List Bool). votes_for p.contests (reading ballot s) u) p.marks)

pub shown_own : (p : PartialDeck) (u : ℕ) → IsPartial p
    → count_by (λ row. votes_for p.contests (map is_marked row) u) p.marks
    ≡ own_total p.contests (shown p) u
shown_own p u is =
    sym (own_votes p.contests (shown p) u (shown_fits p is) ∙ count_map (λ (row : List Mark). map is_marked row) (λ (ballot : List Bool). votes_for p.contests ballot u) p.marks)

-- The levels of contests: of blank ballots, and where a mark is put.
use Rattle.std.proofs.Common.{◌≡◌, ◌≢◌, ◌≤◌, ◌<◌, ◌+◌, ◌*◌, ◌/◌, ◌%◌, ◌⊎◌, inl, inr, ℕ, List, [], length, get_or, set, map, replicate, cond, count_by, refl, subst, ap, sym, ◌∙◌, arith}
use Rattle.std.specs.List.{range_with_len}
use Rattle.std.proofs.lemmas.Bool.{cases_eq, cases_lt}
use Rattle.std.proofs.lemmas.List.{get_or-set_same, get_or-set_other, length-set, length-replicate}
use Rattle.std.proofs.lemmas.List.FromFn.{get_or-map-range_with_len, length-map-range_with_len}
use Rattle.std.proofs.lemmas.List.Sums.{sum_by-set, get_or-le-sum_by, count_by-le-length}
use Rattle.lat_base.specs.declared.contest.Contest.{Contest}
use Rattle.lat_base.specs.Shape.{target_count, first_target, contest_at, contest_of, no_contest, IsShape}
use Rattle.readings.proofs.Places.{is_of}
use Rattle.deck_state.specs.declared.kept_counts.ContestCount.{ContestCount}
use Rattle.deck_state.specs.declared.mark.Mark.{Mark}
use Rattle.deck_state.specs.Mark.{is_marked, may_be_marked}
use Rattle.deck_state.specs.Sheet.{count_of, vote}
use Rattle.deck_state.specs.Tally.{is_at, place_of, level_alike, AreLevels, AreRaised, HasLevels}
use Rattle.deck_state.proofs.KeptVotes.{range_other}
use Rattle.deck_state.proofs.Sheets.{count_alike, outside_of}

-- no limit is above 64
small_limit : (contests : List Contest) (c : ℕ) → IsShape contests → c < length contests
    → (contest_at contests c).limit ≤ 64
small_limit contests c shape h = (shape.limits c no_contest h).1

-- none is raised yet
pub raised_none : (limit first : ℕ) (before after : ContestCount) (levels : List ℕ)
    → AreRaised limit first 0 before after levels levels
raised_none limit first before after levels = record {
  long = refl;
  here = λ v lt. absurd (omega (arith, lt));
  other = λ i h. refl;
}

-- one more is
pub raised_more : (limit first v x : ℕ) (before after : ContestCount) (old new : List ℕ)
    → AreRaised limit first v before after old new → first + v < length new
    → x + vote (is_at limit v before) ≡ get_or new (first + v) 0 + vote (is_at limit v after)
    → AreRaised limit first (v + 1) before after old (set new (first + v) x)
raised_more limit first v x before after old new so_far within moved =
    let put = get_or-set_same new (first + v) x 0 within in
    let was = so_far.other (first + v) (inr (omega arith)) in
    let now : get_or (set new (first + v) x) (first + v) 0 + vote (is_at limit v before) ≡ get_or old (first + v) 0 + vote (is_at limit v after) = omega (arith, put, was, moved) in
    record {
      long = length-set new (first + v) x ∙ so_far.long;
      here = λ w lt. elim (cases_eq w v) [
        | inl same ↦ subst (λ (u : ℕ). get_or (set new (first + v) x) (first + u) 0 + vote (is_at limit u before) ≡ get_or old (first + u) 0 + vote (is_at limit u after)) (sym same) now
        | inr apart ↦ omega (arith, get_or-set_other new (first + v) (first + w) x 0 (λ e. apart (omega (arith, e))), so_far.here w (below w v lt apart))
      ];
      other = λ i h. elim h [
        | inl less ↦ get_or-set_other new (first + v) i x 0 (λ e. absurd (omega (arith, e, less))) ∙ so_far.other i (inl less)
        | inr past ↦ get_or-set_other new (first + v) i x 0 (λ e. absurd (omega (arith, e, past))) ∙ so_far.other i (inr (omega (arith, past)))
      ];
    }
  where
    below : (w v : ℕ) → w < v + 1 → w ≢ v → w < v
    below w v lt apart = grind (arith, lt, apart)

-- what is there before it is raised
pub not_raised : (limit first v : ℕ) (before after : ContestCount) (old new : List ℕ)
    → AreRaised limit first v before after old new
    → get_or new (first + v) 0 ≡ get_or old (first + v) 0
not_raised limit first v before after old new so_far = so_far.other (first + v) (inr (omega arith))

-- each ballot belongs to its levels
pub has_levels : (contests : List Contest) (marks : List (List Mark)) (levels : List ℕ) (j c : ℕ)
    (before : ContestCount) → AreLevels contests marks levels → j < length marks
    → c < length contests
    → before ≡ count_of contests (get_or marks j []) c
    → HasLevels (contest_at contests c).limit (c * 65) before levels
has_levels contests marks levels j c before are h lt is =
    let limit = (contest_at contests c).limit in
    record {
      room = omega (arith, lt, small_limit contests c are.shape lt, are.each);
      enough = λ v le. omega (arith, are.right c v lt le, ap (λ (n : ContestCount). vote (is_at limit v n)) is, get_or-le-sum_by (λ (row : List Mark). cond (is_at limit v (count_of contests row c)) 1 0) marks j [] h);
      few = λ v le. omega (arith, are.right c v lt le, count_by-le-length (λ (row : List Mark). is_at limit v (count_of contests row c)) marks, are.few);
    }

-- the counts of another contest stay
same_count : (contests : List Contest) (row : List Mark) (t c : ℕ) (mark : Mark)
    → t < target_count contests → c < length contests → c ≢ contest_of contests t
    → count_of contests (set row t mark) c ≡ count_of contests row c
same_count contests row t c mark lt h apart =
    let marks = range_other row (first_target contests c) (first_target contests (c + 1)) t mark (outside_of contests t c lt h apart) in
    λ i. record { marked = count_by is_marked (marks i); possible = count_by may_be_marked (marks i) }

-- the levels once a mark is put
pub levels_put : (contests : List Contest) (marks : List (List Mark)) (old new : List ℕ) (j t c : ℕ)
    (mark : Mark) (before after : ContestCount) → AreLevels contests marks old → j < length marks
    → t < target_count contests
    → c ≡ contest_of contests t → before ≡ count_of contests (get_or marks j []) c
    → after ≡ count_of contests (set (get_or marks j []) t mark) c
    → AreRaised (contest_at contests c).limit (c * 65) ((contest_at contests c).limit + 1) before
    after old new → AreLevels contests (set marks j (set (get_or marks j []) t mark)) new
levels_put contests marks old new j t c mark before after are h lt of is will raised =
    let row = get_or marks j [] in
    let put = set row t mark in
    let c_in : c < length contests = omega (arith, of, (is_of contests t lt).contest) in
    record {
      shape = are.shape;
      few = omega (arith, length-set marks j put, are.few);
      each = raised.long ∙ are.each;
      right = λ d v d_in le.
          let limit = (contest_at contests d).limit in
          let moves = sum_by-set (λ (r : List Mark). cond (is_at limit v (count_of contests r d)) 1 0) marks j put [] h in
          elim (cases_eq d c) [
            | inl same ↦
                let v_in : v < (contest_at contests c).limit + 1 = omega (arith, le, ap (λ (x : ℕ). (contest_at contests x).limit) same) in
                let here = raised.here v v_in in
                let at : get_or new (place_of d v) 0 + vote (is_at limit v (count_of contests row d)) ≡ get_or old (place_of d v) 0 + vote (is_at limit v (count_of contests put d)) =
                subst (λ (x : ℕ). get_or new (place_of x v) 0 + vote (is_at (contest_at contests x).limit v (count_of contests row x)) ≡ get_or old (place_of x v) 0 + vote (is_at (contest_at contests x).limit v (count_of contests put x))) (sym same)
                (subst (λ (n : ContestCount). get_or new (place_of c v) 0 + vote (is_at (contest_at contests c).limit v n) ≡ get_or old (place_of c v) 0 + vote (is_at (contest_at contests c).limit v (count_of contests put c))) is
                (subst (λ (n : ContestCount). get_or new (place_of c v) 0 + vote (is_at (contest_at contests c).limit v before) ≡ get_or old (place_of c v) 0 + vote (is_at (contest_at contests c).limit v n)) will here)) in
                omega (arith, at, moves, are.right d v d_in le)
            | inr apart ↦
                let small = small_limit contests d are.shape d_in in
                let others = small_limit contests c are.shape c_in in
                let stays : get_or new (place_of d v) 0 ≡ get_or old (place_of d v) 0 = raised.other (place_of d v) (outside c d v (contest_at contests c).limit (omega (arith, le, small)) others apart) in
                let count = same_count contests row t d mark lt d_in (λ e. apart (e ∙ sym of)) in
                omega (arith, stays, moves, ap (λ (n : ContestCount). vote (is_at limit v n)) count, are.right d v d_in le)
          ];
    }
  where
    outside : (c d v limit : ℕ) → v ≤ 64 → limit ≤ 64 → d ≢ c
        → (place_of d v < c * 65) ⊎ (c * 65 + (limit + 1) ≤ place_of d v)
    outside c d v limit few less apart = elim (cases_lt d c) [
      | inl before ↦ inl (omega (arith, few, before))
      | inr past ↦ inr (omega (arith, less, above c d past apart))
    ]
      where
        above : (c d : ℕ) → c ≤ d → d ≢ c → c < d
        above c d le other = grind (arith, le, other)

-- the levels of blank ballots
pub levels_blank : (contests : List Contest) (k : ℕ) (levels : List ℕ) (blank : List Mark)
    → IsShape contests → k ≤ 1024
    → levels ≡ map (level_alike contests blank k) (range_with_len 0 (length contests * 65))
    → AreLevels contests (replicate k blank) levels
levels_blank contests k levels blank shape few are =
    let level = level_alike contests blank k in
    record {
      shape = shape;
      few = omega (arith, length-replicate k blank, few);
      each = ap length are ∙ length-map-range_with_len level 0 (length contests * 65);
      right = λ c v h le.
          let small = small_limit contests c shape h in
          let contest : place_of c v / 65 ≡ c = omega (arith, small, le) in
          let number : place_of c v % 65 ≡ v = omega (arith, small, le) in
          ap (λ (ls : List ℕ). get_or ls (place_of c v) 0) are
          ∙ (get_or-map-range_with_len level 0 (length contests * 65) (place_of c v) (place_of c v) 0 (omega (arith, h, small, le)) (omega arith)
          ∙ ((λ i. cond (is_at (contest_at contests (contest i)).limit (number i) (count_of contests blank (contest i))) k 0)
          ∙ sym (count_alike (λ row. is_at (contest_at contests c).limit v (count_of contests row c)) k blank)));
    }

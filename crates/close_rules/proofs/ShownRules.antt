-- The deck that a complete partial deck shows has the ballots that the rules ask for, in order.
use Rattle.std.proofs.Common.{◌≡◌, ◌+◌, ◌<◌, ◌≤◌, ◌&&◌, ℕ, suc, Bool, true, false, not, nat_lt, List, [], ◌∷◌, length, get_or, map, count_by, refl, ap, sym, ◌∙◌, arith}
use Rattle.std.specs.List.{AllByRecursion}
use Rattle.std.specs.Ordering.{bool_cmp}
use Rattle.std.specs.Cmp.Lexicographic.{slice_cmp}
use Rattle.std.specs.declared.cmp.Ordering.TheVariants.{Less}
use Rattle.std.proofs.lemmas.List.{get_or-map}
use Rattle.std.proofs.lemmas.Bool.{lt-ltb, ltb-false}
use Rattle.lat_base.specs.Shape.{contest_at}
use Rattle.lat_base.specs.Tally.{is_overvoted}
use Rattle.lat_base.specs.Rules.{is_blank}
use Rattle.lemmas.proofs.Counting.{count_alike, count_map}
use Rattle.deck_state.specs.declared.mark.Mark.{Mark}
use Rattle.deck_state.specs.declared.mark.Mark.TheVariants.{Marked, Unmarked, Undecided}
use Rattle.deck_state.specs.Mark.{is_marked, is_undecided}
use Rattle.deck_state.specs.PartialDeck.{PartialDeck, row_at}
use Rattle.deck_state.specs.Shown.{IsComplete, shown}
use Rattle.deck_state.specs.Trail.{IsPartial}
use Rattle.close_rules.specs.Ballots.{may_be_blank, may_be_overvoted, lacks_blank, lacks_overvoted}
use Rattle.close_rules.specs.Order.{is_smaller, is_out_of_order}
use Rattle.close_rules.specs.Totals.{can_overvote}
use Rattle.close_rules.proofs.CompleteRows.{decided_row, possible_is}
use Rattle.close_rules.proofs.Passed.{not_second}
use Rattle.close_rules.proofs.RowVotes.{row_marks}

-- a row without marks is that of a blank ballot
blank_same : (row : List Mark) → may_be_blank row ≡ is_blank (map is_marked row)
blank_same [] = refl
blank_same (mark ∷ row) = ap (λ (b : Bool). not (is_marked mark) && b) (blank_same row)

-- enough ballots are blank
pub blank_enough : (p : PartialDeck) → lacks_blank p ≡ false
    → p.rules.blank ≤ count_by is_blank (shown p)
blank_enough p none =
    let count = count_alike may_be_blank (λ (row : List Mark). is_blank (map is_marked row)) p.marks (λ j d lt. blank_same (get_or p.marks j d)) in
    omega (arith, ltb-false (count_by may_be_blank p.marks) p.rules.blank none, count, count_map (λ (row : List Mark). map is_marked row) is_blank p.marks)

-- and enough are overvoted in a contest
pub over_enough : (p : PartialDeck) (c : ℕ) → IsPartial p → IsComplete p
    → lacks_overvoted p c ≡ false → c < length p.contests
    → (contest_at p.contests c).limit < (contest_at p.contests c).targets
    → p.rules.over ≤ count_by (λ ballot. is_overvoted p.contests ballot c) (shown p)
over_enough p c is complete none h can =
    let limit = (contest_at p.contests c).limit in
    let few = nat_lt (count_by (may_be_overvoted p.contests c) p.marks) p.rules.over in
    let rest = not_second (nat_lt c (length p.contests)) (can_overvote (contest_at p.contests c) && few) none (lt-ltb c (length p.contests) h) in
    let enough = ltb-false (count_by (may_be_overvoted p.contests c) p.marks) p.rules.over (not_second (can_overvote (contest_at p.contests c)) few rest (lt-ltb limit (contest_at p.contests c).targets can)) in
    let count = count_alike (may_be_overvoted p.contests c) (λ (row : List Mark). is_overvoted p.contests (map is_marked row) c) p.marks
    (λ j d lt. ap (nat_lt limit) (possible_is p.contests (get_or p.marks j d) c (decided_row p j d is complete (omega (arith, lt, is.height))) ∙ sym (row_marks p.contests (get_or p.marks j d) c))) in
    omega (arith, enough, count, count_map (λ (row : List Mark). map is_marked row) (λ (ballot : List Bool). is_overvoted p.contests ballot c) p.marks)

-- a row whose marks are decided, one by one
abbrev AreDecided : List Mark → Type 0
AreDecided row = AllByRecursion (λ mark. is_undecided mark ≡ false) row

are_decided : (row : List Mark)
    → ((t : ℕ) → t < length row → is_undecided (get_or row t Undecided) ≡ false) → AreDecided row
are_decided [] h = tt
are_decided (mark ∷ row) h = (h 0 (omega arith), are_decided row (λ t lt. h (suc t) (omega (arith, lt))))

less_smaller : (row other : List Mark) → AreDecided row → AreDecided other
    → length row ≡ length other → slice_cmp bool_cmp (map is_marked row) (map is_marked other)
    ≡ Less → is_smaller row other ≡ true
less_smaller [] [] x y long h = cc
less_smaller [] (o ∷ other) x y long h = absurd (omega (arith, long))
less_smaller (m ∷ row) [] x y long h = absurd (omega (arith, long))
less_smaller (Marked ∷ row) (Marked ∷ other) x y long h = less_smaller row other x.1 y.1 (omega (arith, long)) h
less_smaller (Marked ∷ row) (Unmarked ∷ other) x y long h = cc
less_smaller (Marked ∷ row) (Undecided ∷ other) x y long h = let bad : true ≡ false = y.0 in cc
less_smaller (Unmarked ∷ row) (Marked ∷ other) x y long h = refl
less_smaller (Unmarked ∷ row) (Unmarked ∷ other) x y long h = less_smaller row other x.1 y.1 (omega (arith, long)) h
less_smaller (Unmarked ∷ row) (Undecided ∷ other) x y long h = let bad : true ≡ false = y.0 in cc
less_smaller (Undecided ∷ row) (o ∷ other) x y long h = let bad : true ≡ false = x.0 in cc

-- no ballot is smaller than the next
pub in_order : (p : PartialDeck) (j : ℕ) → IsPartial p → IsComplete p → is_out_of_order p j ≡ false
    → j + 1 < p.ballots → slice_cmp bool_cmp (get_or (shown p) j []) (get_or (shown p) (j + 1) [])
    ≡ Less → ⊥
in_order p j is complete none h less =
    let row = decided_row p j [] is complete (omega (arith, h)) in
    let next = decided_row p (j + 1) [] is complete h in
    let here : get_or (shown p) j [] ≡ map is_marked (row_at p j) = get_or-map (λ (r : List Mark). map is_marked r) p.marks j [] [] (omega (arith, h, is.height)) in
    let there : get_or (shown p) (j + 1) [] ≡ map is_marked (row_at p (j + 1)) = get_or-map (λ (r : List Mark). map is_marked r) p.marks (j + 1) [] [] (omega (arith, h, is.height)) in
    let smaller = less_smaller (row_at p j) (row_at p (j + 1)) (are_decided (row_at p j) (λ t lt. row.decided t (omega (arith, lt, row.long)))) (are_decided (row_at p (j + 1)) (λ t lt. next.decided t (omega (arith, lt, next.long)))) (row.long ∙ sym next.long)
    ((λ i. slice_cmp bool_cmp (sym here i) (sym there i)) ∙ less) in
    let not_smaller = not_second (nat_lt (j + 1) p.ballots) (is_smaller (row_at p j) (row_at p (j + 1))) none (lt-ltb (j + 1) p.ballots h) in
    let bad : true ≡ false = sym smaller ∙ not_smaller in cc

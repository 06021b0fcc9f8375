-- Where no cheap reason holds of a complete partial deck, none holds of it with bounds that say
-- nothing.
use Rattle.std.proofs.Common.{◌≡◌, ◌<◌, ◌≤◌, ◌&&◌, inl, inr, ℕ, suc, Bool, false, nat_lt, min, max, List, [], ◌∷◌, length, get_or, map, replicate, refl, ap, sym, ◌∙◌, arith}
use Rattle.std.specs.Prelude.{◌==◌}
use Rattle.std.specs.List.{list_all, sum}
use Rattle.std.specs.Ordering.{nat_cmp, is_eq, is_gt}
use Rattle.std.specs.Cmp.Lexicographic.{slice_cmp}
use Rattle.std.proofs.lemmas.Bool.{cases_lt}
use Rattle.std.proofs.lemmas.List.{get_or_past, get_or-replicate, length-replicate}
use Rattle.std.proofs.lemmas.List.Sums.{count_by-le-length}
use Rattle.lat_base.specs.Shape.{target_count, contest_at}
use Rattle.readings.specs.Structural.{targets_of}
use Rattle.deck_state.specs.declared.bounds.Bounds.{Bounds}
use Rattle.deck_state.specs.declared.mark.Mark.{Mark}
use Rattle.deck_state.specs.declared.mark.Mark.TheVariants.{Marked, Unmarked, Undecided}
use Rattle.deck_state.specs.Mark.{is_marked, is_undecided, mark_of}
use Rattle.deck_state.specs.PartialDeck.{PartialDeck, bounds_at, no_bounds}
use Rattle.deck_state.specs.Shown.{IsComplete, decided_as, shown}
use Rattle.deck_state.specs.Trail.{IsPartial}
use Rattle.deck_state.specs.Votes.{sure_votes, possible_votes, possibly_votes_for, lo, hi}
use Rattle.close_rules.specs.declared.reason.Reason.{Reason}
use Rattle.close_rules.specs.declared.reason.Reason.TheVariants.{Order, Totals, Capacity, Blank, Over, Twin, ContestOrder, Pigeon, Columns, Same, Evade}
use Rattle.close_rules.specs.Capacity.{capacity}
use Rattle.close_rules.specs.Fixed.{has_shape_of}
use Rattle.close_rules.specs.Refutes.{refutes, IsCheap}
use Rattle.close_rules.specs.Totals.{least_rising, most_voting, is_above}
use Rattle.close_rules.proofs.CompleteRows.{decided_row, sure_total, possible_total}
use Rattle.close_rules.proofs.ShownSolution.{IsLeft, low_known, high_known}

-- the marks of a deck are those that it shows
row_same : (row : List Mark) → ((t : ℕ) → t < length row
    → is_undecided (get_or row t Undecided) ≡ false) → map mark_of (map is_marked row) ≡ row
row_same [] h = refl
row_same (mark ∷ row) h = λ i. mark_same mark (h 0 (omega arith)) i ∷ row_same row (λ t lt. h (suc t) (omega (arith, lt))) i
  where
    mark_same : (mark : Mark) → is_undecided mark ≡ false → mark_of (is_marked mark) ≡ mark
    mark_same Marked e = refl
    mark_same Unmarked e = refl
    mark_same Undecided e = cc

rows_same : (rows : List (List Mark))
    → ((j : ℕ) → j < length rows → (t : ℕ) → t < length (get_or rows j [])
    → is_undecided (get_or (get_or rows j []) t Undecided) ≡ false)
    → map (λ ballot. map mark_of ballot) (map (λ row. map is_marked row) rows) ≡ rows
rows_same [] h = refl
rows_same (row ∷ rows) h = λ i. row_same row (h 0 (omega arith)) i ∷ rows_same rows (λ j lt. h (suc j) (omega (arith, lt))) i

marks_same : (p : PartialDeck) → IsPartial p → IsComplete p
    → (decided_as p.contests p.rules p.ballots (shown p)).marks ≡ p.marks
marks_same p is complete = rows_same p.marks (λ j lt t h.
    let row = decided_row p j [] is complete (omega (arith, lt, is.height)) in row.decided t (omega (arith, h, row.long)))

-- the same partial deck with bounds that say nothing
abbrev wide : PartialDeck → PartialDeck
wide p = record p { bounds = replicate (target_count p.contests) (record { low = 0; high = p.ballots }); steps = [] }

wide_at : (p : PartialDeck) (t : ℕ) → t < target_count p.contests → bounds_at (wide p) t ≡ record { low = 0; high = p.ballots }
wide_at p t lt = get_or-replicate (target_count p.contests) t (record { low = 0; high = p.ballots }) no_bounds lt

past : (p : PartialDeck) (t : ℕ) → IsPartial p → target_count p.contests ≤ t
    → bounds_at (wide p) t ≡ bounds_at p t
past p t is le = get_or_past (wide p).bounds t no_bounds (omega (arith, le, length-replicate {A = Bounds} (target_count p.contests) (record { low = 0; high = p.ballots }))) ∙ sym (get_or_past p.bounds t no_bounds (omega (arith, le, is.each)))

lows_same : (p : PartialDeck) (t : ℕ) → IsLeft p → lo (wide p) t ≡ lo p t
lows_same p t left = elim (cases_lt t (target_count p.contests)) [
  | inl lt ↦
      let e : lo (wide p) t ≡ max 0 (sure_votes p t) = ap (λ (b : Bounds). max b.low (sure_votes p t)) (wide_at p t lt) in
      omega (arith, e, sure_total p t left.is left.complete lt, low_known p t left lt)
  | inr le ↦ ap (λ (b : Bounds). max b.low (sure_votes p t)) (past p t left.is le)
]

highs_same : (p : PartialDeck) (t : ℕ) → IsLeft p → hi (wide p) t ≡ hi p t
highs_same p t left = elim (cases_lt t (target_count p.contests)) [
  | inl lt ↦
      let e : hi (wide p) t ≡ min p.ballots (possible_votes p t) = ap (λ (b : Bounds). min b.high (possible_votes p t)) (wide_at p t lt) in
      let few : possible_votes p t ≤ length p.marks = count_by-le-length (λ (row : List Mark). possibly_votes_for p.contests row t) p.marks in
      let height = left.is.height in
      omega (arith, e, few, height, possible_total p t left.is left.complete lt, high_known p t left lt)
  | inr le ↦ ap (λ (b : Bounds). min b.high (possible_votes p t)) (past p t left.is le)
]

low_same : (p : PartialDeck) → IsLeft p → lo (wide p) ≡ lo p
low_same p left = λ i. λ t. lows_same p t left i

high_same : (p : PartialDeck) → IsLeft p → hi (wide p) ≡ hi p
high_same p left = λ i. λ t. highs_same p t left i

-- the tests, of any least and greatest totals
abbrev no_totals : PartialDeck → (ℕ → ℕ) → (ℕ → ℕ) → ℕ → Bool
no_totals p low high c = nat_lt c (length p.contests) && is_above (most_voting p c) (least_rising p.rules.least (map low (targets_of p.contests c))) (map high (targets_of p.contests c))

abbrev no_capacity : PartialDeck → (ℕ → ℕ) → ℕ → Bool
no_capacity p low c = nat_lt c (length p.contests) && nat_lt (capacity p c) (sum (least_rising p.rules.least (map low (targets_of p.contests c))))

abbrev fixed_in : PartialDeck → (ℕ → ℕ) → (ℕ → ℕ) → ℕ → Bool
fixed_in p low high c = list_all (λ t. low t == high t) (targets_of p.contests c)

abbrev compare_in : PartialDeck → (ℕ → ℕ) → (ℕ → ℕ) → ℕ → ℕ → Bool
compare_in p low high c d =
    nat_lt c d && (nat_lt d (length p.contests) && (has_shape_of (contest_at p.contests c) (contest_at p.contests d) && (fixed_in p low high c && fixed_in p low high d)))

tests_same : (p : PartialDeck) (r : Reason) → IsLeft p → IsCheap r
    → refutes (wide p) r ≡ refutes p r
tests_same p (Order j) left h = refl
tests_same p (Totals c) left h = λ i. no_totals p (low_same p left i) (high_same p left i) c
tests_same p (Capacity c) left h = λ i. no_capacity p (low_same p left i) c
tests_same p Blank left h = refl
tests_same p (Over c) left h = refl
tests_same p (Twin c d) left h = λ i. compare_in p (low_same p left i) (high_same p left i) c d && is_eq (slice_cmp nat_cmp (map (low_same p left i) (targets_of p.contests c)) (map (low_same p left i) (targets_of p.contests d)))
tests_same p (ContestOrder c d) left h = λ i. compare_in p (low_same p left i) (high_same p left i) c d && is_gt (slice_cmp nat_cmp (map (low_same p left i) (targets_of p.contests c)) (map (low_same p left i) (targets_of p.contests d)))
tests_same p (Pigeon c) left h = refl
tests_same p Columns left h = refl
tests_same p (Same t u) left h = refl
tests_same p (Evade s) left h = absurd h

pub still_none : (p : PartialDeck) → IsPartial p → IsComplete p
    → ((r : Reason) → IsCheap r → refutes p r ≡ false) → (r : Reason) → IsCheap r
    → refutes (decided_as p.contests p.rules p.ballots (shown p)) r ≡ false
still_none p is complete none r cheap =
    let left : IsLeft p = record { is = is; complete = complete; none = none } in
    (λ i. refutes (record (wide p) { marks = marks_same p is complete i }) r) ∙ (tests_same p r left cheap ∙ none r cheap)

-- Reasons that needn't be tested, since they can't hold, or hold where another one does.
use Rattle.std.proofs.Common.{◌≡◌, ◌-◌, ◌*◌, ◌+◌, ◌<◌, ◌≤◌, ◌&&◌, ℕ, zero, suc, Bool, true, false, not, nat_lt, List, [], ◌∷◌, length, get_or, count_by, cond, refl, ap, sym, ◌∙◌, arith}
use Rattle.std.specs.Prelude.{◌==◌}
use Rattle.std.specs.Cmp.Lexicographic.{slice_cmp}
use Rattle.std.specs.List.{list_all}
use Rattle.std.specs.Ordering.{nat_cmp, is_eq, is_gt}
use Rattle.std.proofs.lemmas.Bool.{and_parts, and_from, le-ltb, lt-ltb}
use Rattle.std.proofs.lemmas.Bool.Decides.{nat_tests}
use Rattle.lat_base.specs.declared.contest.Contest.{Contest}
use Rattle.lat_base.specs.Shape.{target_count, contest_at}
use Rattle.deck_state.specs.declared.mark.Mark.{Mark}
use Rattle.deck_state.specs.declared.mark.Mark.TheVariants.{Marked, Unmarked, Undecided}
use Rattle.deck_state.specs.PartialDeck.{PartialDeck, mark_at}
use Rattle.deck_state.specs.Trail.{IsPartial}
use Rattle.close_rules.specs.Columns.{is_same, has_same, have_same_columns}
use Rattle.close_rules.specs.Fixed.{lows, has_shape_of, is_fixed, are_comparable, are_twins, are_out_of_order}
use Rattle.close_rules.specs.Pigeon.{rising_lists, has_few_lists}
use Rattle.close_rules.specs.Totals.{can_overvote}

-- a fact that has its parts in another order
none_and : (a : Bool) → (a && false) ≡ false
none_and true = refl
none_and false = refl

fails_by : (a b : Bool) → (a ≡ true → b ≡ true) → b ≡ false → a ≡ false
fails_by true b h none = let bad : true ≡ false = sym (h refl) ∙ none in absurd (cc bad)
fails_by false b h none = refl

-- an undecided mark is the same as no other
one_fails : {X : Type 0} (test : X → Bool) (xs : List X) (j : ℕ) (d : X) → j < length xs
    → test (get_or xs j d) ≡ false → list_all test xs ≡ false
one_fails test [] j d lt none = absurd (omega (arith, lt))
one_fails test (x ∷ xs) zero d lt none = λ i. none i && list_all test xs
one_fails test (x ∷ xs) (suc j) d lt none = (λ i. test x && one_fails test xs j d (omega (arith, lt)) none i) ∙ none_and (test x)

pub undecided_column : (p : PartialDeck) (t j : ℕ) → IsPartial p → j < p.ballots
    → mark_at p j t ≡ Undecided → (u : ℕ) → have_same_columns p t u ≡ false
undecided_column p t j is lt undecided u =
    let here : has_same t u (get_or p.marks j []) ≡ false = ap (λ (m : Mark). is_same m (mark_at p j u)) undecided in
    let column = one_fails (has_same t u) p.marks j [] (omega (arith, lt, is.height)) here in
    fails_by (have_same_columns p t u) (list_all (has_same t u) p.marks)
    (λ h.
    let n = target_count p.contests in
    (and_parts (not (t == u)) (list_all (has_same t u) p.marks) (and_parts (nat_lt u n) (not (t == u) && list_all (has_same t u) p.marks) (and_parts (nat_lt t n) (nat_lt u n && (not (t == u) && list_all (has_same t u) p.marks)) h).1).1).1)
    column

-- two targets have the same marks in either order
same_swapped : (m n : Mark) → is_same m n ≡ is_same n m
same_swapped Marked Marked = refl
same_swapped Marked Unmarked = refl
same_swapped Marked Undecided = refl
same_swapped Unmarked Marked = refl
same_swapped Unmarked Unmarked = refl
same_swapped Unmarked Undecided = refl
same_swapped Undecided Marked = refl
same_swapped Undecided Unmarked = refl
same_swapped Undecided Undecided = refl

pub columns_swapped : (p : PartialDeck) (t u : ℕ) → have_same_columns p u t ≡ false
    → have_same_columns p t u ≡ false
columns_swapped p t u none =
    fails_by (have_same_columns p t u) (have_same_columns p u t)
    (λ h.
    let n = target_count p.contests in
    let first = and_parts (nat_lt t n) (nat_lt u n && (not (t == u) && list_all (has_same t u) p.marks)) h in
    let second = and_parts (nat_lt u n) (not (t == u) && list_all (has_same t u) p.marks) first.1 in
    let third = and_parts (not (t == u)) (list_all (has_same t u) p.marks) second.1 in
    let rows : list_all (has_same u t) p.marks ≡ list_all (has_same t u) p.marks = λ i. list_all (λ row. same_swapped (get_or row u Undecided) (get_or row t Undecided) i) p.marks in
    let other : not (u == t) ≡ true = grind (arith, nat_tests, third.0) in
    and_from (nat_lt u n) (nat_lt t n && (not (u == t) && list_all (has_same u t) p.marks)) second.0
    (and_from (nat_lt t n) (not (u == t) && list_all (has_same u t) p.marks) first.0 (and_from (not (u == t)) (list_all (has_same u t) p.marks) other (rows ∙ third.1))))
    none

-- a target with itself
pub not_itself : (p : PartialDeck) (t : ℕ) → have_same_columns p t t ≡ false
not_itself p t =
    let same : not (t == t) ≡ false = grind (arith, nat_tests) in
    (λ i. nat_lt t (target_count p.contests) && (nat_lt t (target_count p.contests) && (same i && list_all (has_same t t) p.marks)))
    ∙ ((λ i. nat_lt t (target_count p.contests) && none_and (nat_lt t (target_count p.contests)) i) ∙ none_and (nat_lt t (target_count p.contests)))

-- contests whose totals aren't known, or that don't come before the other, aren't compared
pub not_compared : (p : PartialDeck) (c d : ℕ) → are_comparable p c d ≡ false
    → (are_twins p c d ≡ false) × (are_out_of_order p c d ≡ false)
not_compared p c d none =
    let order = slice_cmp nat_cmp (lows p c) (lows p d) in
    (λ i. none i && is_eq order, λ i. none i && is_gt order)

pub not_known : (p : PartialDeck) (c d : ℕ) → is_fixed p c ≡ false → are_comparable p c d ≡ false
not_known p c d none =
    let shape = has_shape_of (contest_at p.contests c) (contest_at p.contests d) in
    (λ i. nat_lt c d && (nat_lt d (length p.contests) && (shape && (none i && is_fixed p d))))
    ∙ ((λ i. nat_lt c d && (nat_lt d (length p.contests) && none_and shape i)) ∙ ((λ i. nat_lt c d && none_and (nat_lt d (length p.contests)) i) ∙ none_and (nat_lt c d)))

pub not_before : (p : PartialDeck) (c d : ℕ) → d ≤ c → are_comparable p c d ≡ false
not_before p c d le = λ i. le-ltb c d le i && (nat_lt d (length p.contests) && (has_shape_of (contest_at p.contests c) (contest_at p.contests d) && (is_fixed p c && is_fixed p d)))

-- contests of one shape have the same lists of totals, and are as many
abbrev few_of : PartialDeck → Contest → Bool
few_of p contest =
    let most = cond (can_overvote contest) (p.ballots - p.rules.blank - p.rules.over) (p.ballots - p.rules.blank) in
    nat_lt (length (rising_lists contest.targets p.rules.least (most + 1 - p.rules.least) (contest.limit * most))) (count_by (has_shape_of contest) p.contests)

pub alike_pigeon : (p : PartialDeck) (c d : ℕ) → c < length p.contests → d < c
    → contest_at p.contests d ≡ contest_at p.contests c → has_few_lists p d ≡ false
    → has_few_lists p c ≡ false
alike_pigeon p c d h lt same none =
    let first : nat_lt c (length p.contests) ≡ nat_lt d (length p.contests) = lt-ltb c (length p.contests) h ∙ sym (lt-ltb d (length p.contests) (omega (arith, h, lt))) in
    (λ i. first i && few_of p (sym same i)) ∙ none

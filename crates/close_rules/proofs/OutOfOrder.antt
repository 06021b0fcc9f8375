-- Ballots of a canonical deck are in order.
use Rattle.std.proofs.Common.{◌≡◌, ◌+◌, ◌-◌, ◌<◌, ℕ, suc, Bool, true, nat_lt, List, [], ◌∷◌, get_or, arith, ◌∙◌}
use Rattle.std.specs.Ordering.{bool_cmp}
use Rattle.std.specs.Cmp.Lexicographic.{slice_cmp}
use Rattle.std.specs.declared.cmp.Ordering.TheVariants.{Less}
use Rattle.std.proofs.lemmas.Bool.{and_parts, ltb-true}
use Rattle.lat_base.specs.Shape.{target_count}
use Rattle.deck_state.specs.declared.mark.Mark.{Mark}
use Rattle.deck_state.specs.declared.mark.Mark.TheVariants.{Marked, Unmarked, Undecided}
use Rattle.deck_state.specs.PartialDeck.{PartialDeck, row_at}
use Rattle.deck_state.specs.Trail.{IsPartial}
use Rattle.deck_state.specs.Completion.{Agrees}
use Rattle.deck_state.proofs.Alike.{AreAlike, alike_at}
use Rattle.close_rules.specs.Order.{is_smaller, is_out_of_order}
use Rattle.close_rules.specs.Solution.{IsSolution}

-- a row and a ballot that agree, mark by mark
abbrev AgreeAll : List Mark → List Bool → Type 0
AgreeAll [] [] = Unit {0}
AgreeAll [] (x ∷ ballot) = ⊥
AgreeAll (mark ∷ row) [] = ⊥
AgreeAll (mark ∷ row) (x ∷ ballot) = Agrees mark x × AgreeAll row ballot

agree_all : (n : ℕ) (row : List Mark) (ballot : List Bool) → AreAlike n row ballot
    → AgreeAll row ballot
agree_all n [] [] are = tt
agree_all n [] (x ∷ ballot) are = absurd (omega (arith, are.row_long, are.long))
agree_all n (mark ∷ row) [] are = absurd (omega (arith, are.row_long, are.long))
agree_all n (mark ∷ row) (x ∷ ballot) are =
    let some : 0 < n = omega (arith, are.row_long) in (
      are.agrees 0 some,
      agree_all (n - 1) row ballot (record {
        row_long = omega (arith, are.row_long);
        long = omega (arith, are.long);
        agrees = λ t lt. are.agrees (suc t) (omega (arith, lt, some));
      }),
    )

smaller_less : (row other : List Mark) (a b : List Bool) → AgreeAll row a → AgreeAll other b
    → is_smaller row other ≡ true → slice_cmp bool_cmp a b ≡ Less
smaller_less [] other a b x y h = cc
smaller_less (m ∷ row) [] a b x y h = cc
smaller_less (m ∷ row) (o ∷ other) [] b x y h = absurd x
smaller_less (m ∷ row) (o ∷ other) (k ∷ a) [] x y h = absurd y
smaller_less (Marked ∷ row) (Marked ∷ other) (k ∷ a) (l ∷ b) x y h = (λ i. slice_cmp bool_cmp (x.0 i ∷ a) (y.0 i ∷ b)) ∙ smaller_less row other a b x.1 y.1 h
smaller_less (Marked ∷ row) (Unmarked ∷ other) (k ∷ a) (l ∷ b) x y h = cc
smaller_less (Marked ∷ row) (Undecided ∷ other) (k ∷ a) (l ∷ b) x y h = cc
smaller_less (Unmarked ∷ row) (Marked ∷ other) (k ∷ a) (l ∷ b) x y h = λ i. slice_cmp bool_cmp (x.0 i ∷ a) (y.0 i ∷ b)
smaller_less (Unmarked ∷ row) (Unmarked ∷ other) (k ∷ a) (l ∷ b) x y h = (λ i. slice_cmp bool_cmp (x.0 i ∷ a) (y.0 i ∷ b)) ∙ smaller_less row other a b x.1 y.1 h
smaller_less (Unmarked ∷ row) (Undecided ∷ other) (k ∷ a) (l ∷ b) x y h = cc
smaller_less (Undecided ∷ row) (o ∷ other) (k ∷ a) (l ∷ b) x y h = cc

-- a ballot that is smaller than the next leaves no solution
pub order_empty : (p : PartialDeck) (deck : List (List Bool)) (j : ℕ) → IsPartial p
    → IsSolution p deck → is_out_of_order p j ≡ true → ⊥
order_empty p deck j is solution h =
    let parts = and_parts (nat_lt (j + 1) p.ballots) (is_smaller (row_at p j) (row_at p (j + 1))) h in
    let within : j + 1 < p.ballots = ltb-true (j + 1) p.ballots parts.0 in
    solution.canonical.ballots j (omega (arith, within, solution.completion.size))
    (smaller_less (row_at p j) (row_at p (j + 1)) (get_or deck j []) (get_or deck (j + 1) [])
    (agree_all (target_count p.contests) (row_at p j) (get_or deck j []) (alike_at p deck j is solution.completion (omega (arith, within))))
    (agree_all (target_count p.contests) (row_at p (j + 1)) (get_or deck (j + 1) []) (alike_at p deck (j + 1) is solution.completion within)) parts.1)

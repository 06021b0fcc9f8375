-- What a robust deck rules out.
use Rattle.std.proofs.Common.{◌≡◌, ◌≢◌, ◌<◌, ℕ, Bool, true, false, List, length, get_or, cond, refl, ap, sym, ◌∙◌, arith, All}
use Rattle.std.specs.Prelude.{◌==◌}
use Rattle.std.proofs.lemmas.Bool.Decides.{nat_tests}
use Rattle.lat_base.specs.declared.contest.Contest.{Contest}
use Rattle.lat_base.specs.Shape.{target_count}
use Rattle.lat_base.specs.Misassignment.{identity}
use Rattle.lat_base.specs.Tally.{is_marked, reading, votes_for, total, own_total}
use Rattle.lat_base.specs.Deck.{Fits}
use Rattle.lat_base.specs.Goodness.{IsRobust}
use Rattle.readings.specs.Turn.{made, IsTurn, exchange}
use Rattle.readings.specs.Structural.{IsStructural}
use Rattle.readings.proofs.Made.{made_is, made_at, made_long, identity_at, exchange_turn}
use Rattle.lemmas.proofs.Counting.{count_alike}
use Rattle.readings.proofs.Readings.{reading_kept, reading_identity}
use Rattle.readings.proofs.Moves.{totals_move}
use Rattle.readings.proofs.Reports.{alike}

-- a function that keeps each total of a robust deck moves no target
pub robust_turn : (contests : List Contest) (deck : List (List Bool)) (f g : ℕ → ℕ)
    → IsRobust contests deck → IsTurn (target_count contests) f g
    → ((u : ℕ) → u < target_count contests
    → total contests deck (made (target_count contests) f) u ≡ own_total contests deck u) → (u : ℕ)
    → u < target_count contests → f u ≡ u
robust_turn contests deck f g robust turn same u h =
    let n = target_count contests in
    let e : made n f ≡ identity n = robust (made n f) (made_is n f g turn) (alike (total contests deck (made n f)) (own_total contests deck) 0 n (λ v low high. same v (omega (arith, high)))) in
    sym (made_at n f u h) ∙ (ap (λ (s : List ℕ). get_or s u 0) e ∙ identity_at n u h)

-- two targets of a robust deck have different columns
pub columns_differ : (contests : List Contest) (deck : List (List Bool)) (t u : ℕ)
    → IsRobust contests deck → Fits (target_count contests) deck → t < target_count contests
    → u < target_count contests → t ≢ u
    → All (λ b. is_marked b t ≡ is_marked b u) deck → ⊥
columns_differ contests deck t u robust fits h k other equal =
    let n = target_count contests in
    let turn = exchange_turn n t u h k in
    let moved : exchange t u t ≡ u = grind (arith, nat_tests) in
    other (sym (robust_turn contests deck (exchange t u) (exchange t u) robust turn
    (λ v lt. count_alike (λ (b : List Bool). votes_for contests (reading b (made n (exchange t u))) v) (λ (b : List Bool). votes_for contests (reading b (identity n)) v) deck
    (λ j d within. ap (λ (r : List Bool). votes_for contests r v) (kept (get_or deck j d) (fits j d within) (equal j d within) ∙ sym (reading_identity (get_or deck j d) n (fits j d within))))) t h) ∙ moved)
  where
    by_test : (b : List Bool) (v : ℕ) (x y : Bool) → (v == t) ≡ x → (v == u) ≡ y
        → is_marked b t ≡ is_marked b u → is_marked b (cond x u (cond y t v)) ≡ is_marked b v
    by_test b v true y e f equal = let same : v ≡ t = grind (arith, nat_tests, e) in sym equal ∙ ap (is_marked b) (sym same)
    by_test b v false true e f equal = let same : v ≡ u = grind (arith, nat_tests, f) in equal ∙ ap (is_marked b) (sym same)
    by_test b v false false e f equal = refl

    kept : (b : List Bool) → length b ≡ target_count contests → is_marked b t ≡ is_marked b u
        → reading b (made (target_count contests) (exchange t u)) ≡ b
    kept b long equal = reading_kept b (target_count contests) (made (target_count contests) (exchange t u)) long (made_long (target_count contests) (exchange t u))
        (λ v lt. ap (is_marked b) (made_at (target_count contests) (exchange t u) v lt) ∙ by_test b v (v == t) (v == u) refl refl equal)

-- a structural function that takes each target to one of equal total moves none
pub structural_stays : (contests : List Contest) (deck : List (List Bool)) (f g turn : ℕ → ℕ)
    → IsRobust contests deck → Fits (target_count contests) deck
    → IsTurn (target_count contests) f g → IsStructural contests f turn
    → ((u : ℕ) → u < target_count contests
    → own_total contests deck (f u) ≡ own_total contests deck u) → (u : ℕ)
    → u < target_count contests → f u ≡ u
structural_stays contests deck f g turn robust fits is structural equal =
    robust_turn contests deck f g robust is (λ u h. totals_move contests deck f turn u structural (is.within u h) h fits ∙ equal u h)

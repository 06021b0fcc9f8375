-- A misassignment of a part, extended to the style by the identity.
use Rattle.std.proofs.Common.{◌≡◌, ◌<◌, ℕ, Bool, true, false, List, cond, refl, ap, sym, subst, ◌∙◌}
use Rattle.lat_base.specs.declared.contest.Contest.{Contest}
use Rattle.lat_base.specs.Shape.{target_count}
use Rattle.lat_base.specs.Part.{IsPart, part}
use Rattle.readings.specs.Turn.{IsTurn}
use Rattle.projection.proofs.Embedding.{there, here, is_chosen, there_in, there_chosen, here_there, here_in, there_here}

-- where s takes the targets of the part, and every other target stays
abbrev pub extended : List Contest → List ℕ → (ℕ → ℕ) → ℕ → ℕ
extended contests chosen s w = cond (is_chosen contests chosen w) (there contests chosen (s (here contests chosen w))) w

pub extended_there : (contests : List Contest) (chosen : List ℕ) (s : ℕ → ℕ) (u : ℕ)
    → IsPart contests chosen → u < target_count (part contests chosen)
    → extended contests chosen s (there contests chosen u) ≡ there contests chosen (s u)
extended_there contests chosen s u is lt =
    ap (λ (b : Bool). cond b (there contests chosen (s (here contests chosen (there contests chosen u)))) (there contests chosen u)) (there_chosen contests chosen u is lt)
    ∙ ap (λ (x : ℕ). there contests chosen (s x)) (here_there contests chosen u is lt)

pub extended_other : (contests : List Contest) (chosen : List ℕ) (s : ℕ → ℕ) (w : ℕ)
    → is_chosen contests chosen w ≡ false → extended contests chosen s w ≡ w
extended_other contests chosen s w e = ap (λ (b : Bool). cond b (there contests chosen (s (here contests chosen w))) w) e

-- a chosen target is one of the part, and any other stays
pub by_chosen : (contests : List Contest) (chosen : List ℕ) (P : ℕ → Type 0)
    → IsPart contests chosen → ((u : ℕ) → u < target_count (part contests chosen)
    → P (there contests chosen u))
    → ((w : ℕ) → w < target_count contests → is_chosen contests chosen w ≡ false → P w) → (w : ℕ)
    → w < target_count contests → P w
by_chosen contests chosen P is inside outside w lt = by_test (is_chosen contests chosen w) refl
  where
    by_test : (b : Bool) → is_chosen contests chosen w ≡ b → P w
    by_test true e = subst P (there_here contests chosen w is lt e) (inside (here contests chosen w) (here_in contests chosen w is lt e))
    by_test false e = outside w lt e

-- an extended misassignment goes through all targets
pub extended_turn : (contests : List Contest) (chosen : List ℕ) (s i : ℕ → ℕ)
    → IsPart contests chosen → IsTurn (target_count (part contests chosen)) s i
    → IsTurn (target_count contests) (extended contests chosen s) (extended contests chosen i)
extended_turn contests chosen s i is turn = record {
  within = goes s turn.within;
  back_within = goes i turn.back_within;
  back = again s i turn.within turn.back;
  forth = again i s turn.back_within turn.forth;
}
  where
    goes : (s : ℕ → ℕ) → ((u : ℕ) → u < target_count (part contests chosen)
        → s u < target_count (part contests chosen)) → (w : ℕ) → w < target_count contests
        → extended contests chosen s w < target_count contests
    goes s within = by_chosen contests chosen (λ w. extended contests chosen s w < target_count contests) is
        (λ u lt. subst (λ (x : ℕ). x < target_count contests) (sym (extended_there contests chosen s u is lt)) (there_in contests chosen (s u) is (within u lt)))
        (λ w lt e. subst (λ (x : ℕ). x < target_count contests) (sym (extended_other contests chosen s w e)) lt)

    again : (s i : ℕ → ℕ) → ((u : ℕ) → u < target_count (part contests chosen)
        → s u < target_count (part contests chosen))
        → ((u : ℕ) → u < target_count (part contests chosen) → i (s u) ≡ u)
        → (w : ℕ) → w < target_count contests
        → extended contests chosen i (extended contests chosen s w) ≡ w
    again s i within back = by_chosen contests chosen (λ w. extended contests chosen i (extended contests chosen s w) ≡ w) is
        (λ u lt. ap (extended contests chosen i) (extended_there contests chosen s u is lt) ∙ (extended_there contests chosen i (s u) is (within u lt) ∙ ap (there contests chosen) (back u lt)))
        (λ w lt e. ap (extended contests chosen i) (extended_other contests chosen s w e) ∙ extended_other contests chosen i w e)

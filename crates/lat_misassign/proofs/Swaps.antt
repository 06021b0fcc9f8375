-- Swaps keep a misassignment.
use Rattle.std.proofs.Common.{◌≡◌, ◌<◌, ℕ, List, [], ◌∷◌, length, cond, subst, sym, ◌∙◌, arith}
use Rattle.std.specs.Prelude.{◌==◌, swap}
use Rattle.std.specs.List.Sorted.{IsPermutation}
use Rattle.std.proofs.lemmas.List.Sorted.{sum_by-IsPermutation, length_permutation}
use Rattle.lat_base.specs.Misassignment.{IsMisassignment}
use Rattle.lat_misassign.specs.Sources.{AreSources}

sources_permuted : (s new : List ℕ) → AreSources s → IsPermutation s new → AreSources new
sources_permuted s new are moved =
    let long = length_permutation s new moved in
    record {
      some = omega (arith, long, are.some);
      few = omega (arith, long, are.few);
      is = subst (λ (n : ℕ). IsMisassignment n new) (sym long)
          (record { long = long; once = λ t lt. sum_by-IsPermutation (λ (x : ℕ). cond (x == t) 1 0) s new moved ∙ are.is.once t lt });
    }

-- an exchange of two places
pub sources_swapped : (s new : List ℕ) (i j : ℕ) → AreSources s → i < length s → j < length s
    → new ≡ swap s i j → AreSources new
sources_swapped s new i j are h k is = sources_permuted s new are (record { moves = (i, j) ∷ []; below = (h, k, tt); is = is })

-- Reorderings of targets, one after the other.
use Rattle.std.proofs.Common.{◌≡◌, ◌≢◌, ◌<◌, ◌+◌, ℕ, List, length, map, refl, ap, subst, ◌∙◌, arith, IsPermutation}
use Rattle.std.proofs.lemmas.List.{map-id}
use Rattle.std.proofs.lemmas.Simd.{map-map}
use Rattle.std.proofs.lemmas.List.Sorted.{IsPermutation-trans, IsPermutation-map}
use Rattle.lat_base.specs.declared.contest.Contest.{Contest}
use Rattle.lat_base.specs.Shape.{target_count, contest_at}
use Rattle.readings.specs.Turn.{exchange}
use Rattle.readings.specs.Structural.{IsStructural, targets_of, exchange_contests}
use Rattle.readings.proofs.Places.{IsOf, first_le}
use Rattle.readings.proofs.Made.{exchange_turn}
use Rattle.readings.proofs.TargetExchange.{same_permutation, exchange_structural}
use Rattle.readings.proofs.ContestExchange.{contests_turn, contests_structural}
use Rattle.symmetry.specs.Reordering.{IsReordering}

structural_then : (contests : List Contest) (f h turn turned : ℕ → ℕ) → IsStructural contests f turn
    → IsStructural contests h turned
    → ((u : ℕ) → u < target_count contests → h u < target_count contests)
    → IsStructural contests (λ u. f (h u)) (λ c. turn (turned c))
structural_then contests f h turn turned a b inside = record {
  within = λ c lt. a.within (turned c) (b.within c lt);
  shape = λ c lt. a.shape (turned c) (b.within c lt) ∙ b.shape c lt;
  targets = λ c lt. IsPermutation-trans (targets_of contests (turn (turned c))) (map f (targets_of contests (turned c))) (map (λ u. f (h u)) (targets_of contests c)) (a.targets (turned c) (b.within c lt))
      (subst (λ (us : List ℕ). IsPermutation (map f (targets_of contests (turned c))) us) (map-map f h (targets_of contests c)) (IsPermutation-map f (targets_of contests (turned c)) (map h (targets_of contests c)) (b.targets c lt)));
  contest = λ u lt. a.contest (h u) (inside u lt) ∙ ap turn (b.contest u lt);
}

-- a reordering of what was reordered
pub reordering_then : (contests : List Contest) (f h : ℕ → ℕ) → IsReordering contests f
    → IsReordering contests h → IsReordering contests (λ u. f (h u))
reordering_then contests f h a b = record {
  back = λ u. b.back (a.back u);
  turn = λ c. a.turn (b.turn c);
  turn_back = λ c. b.turn_back (a.turn_back c);
  turns = record {
    within = λ u lt. a.turns.within (h u) (b.turns.within u lt);
    back_within = λ u lt. b.turns.back_within (a.back u) (a.turns.back_within u lt);
    back = λ u lt. ap b.back (a.turns.back (h u) (b.turns.within u lt)) ∙ b.turns.back u lt;
    forth = λ u lt. ap f (b.turns.forth (a.back u) (a.turns.back_within u lt)) ∙ a.turns.forth u lt;
  };
  forth = structural_then contests f h a.turn b.turn a.forth b.forth b.turns.within;
  returns = structural_then contests b.back a.back b.turn_back a.turn_back b.returns a.returns a.turns.back_within;
}

nothing_moved : (contests : List Contest) → IsStructural contests (λ u. u) (λ c. c)
nothing_moved contests = record {
  within = λ c lt. lt;
  shape = λ c lt. refl;
  targets = λ c lt. same_permutation (targets_of contests c) (map (λ u. u) (targets_of contests c)) (map-id (targets_of contests c));
  contest = λ u lt. refl;
}

-- each target stays
pub no_reordering : (contests : List Contest) → IsReordering contests (λ u. u)
no_reordering contests = record {
  back = λ u. u;
  turn = λ c. c;
  turn_back = λ c. c;
  turns = record { within = λ u lt. lt; back_within = λ u lt. lt; back = λ u lt. refl; forth = λ u lt. refl };
  forth = nothing_moved contests;
  returns = nothing_moved contests;
}

-- two targets of one contest exchanged
pub targets_exchanged : (contests : List Contest) (c t u : ℕ) → IsOf contests c t
    → IsOf contests c u → t ≢ u → IsReordering contests (exchange t u)
targets_exchanged contests c t u a b other =
    let moved = exchange_structural contests c t u a b other in
    record {
      back = exchange t u;
      turn = λ e. e;
      turn_back = λ e. e;
      turns = exchange_turn (target_count contests) t u (omega (arith, a.to, first_le contests (c + 1))) (omega (arith, b.to, first_le contests (c + 1)));
      forth = moved;
      returns = moved;
    }

-- two contests of the same limit and number of targets exchanged
pub contests_exchanged : (contests : List Contest) (c d : ℕ) → c < length contests
    → d < length contests → contest_at contests c ≡ contest_at contests d
    → IsReordering contests (exchange_contests contests c d)
contests_exchanged contests c d c_in d_in shape =
    let moved = contests_structural contests c d c_in d_in shape in
    record {
      back = exchange_contests contests c d;
      turn = exchange c d;
      turn_back = exchange c d;
      turns = contests_turn contests c d c_in d_in shape;
      forth = moved;
      returns = moved;
    }

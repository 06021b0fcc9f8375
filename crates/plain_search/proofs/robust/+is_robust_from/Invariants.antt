use Rattle.std.proofs.Common.{◌≡◌, ◌<◌, ◌++◌, ◌∷◌, [], ◌-◌, ℕ, length, take}
use Rattle.lat_base.specs.Shape.{target_count}
use Rattle.plain_search.specs.Trying.{RobustFrom}
use Rattle.plain_search.proofs.robust.+is_robust_from.Given as goal

abbrev pub decreases-is_robust_from : goal.decreases-is_robust_from
decreases-is_robust_from l = target_count l.shape.now - l.u

abbrev pub invariant-loop-t : goal.invariant-loop-t
invariant-loop-t l = record {
  kept : take l.u l.sources ≡ take l.u l.fn.sources;
  long : length l.sources ≡ target_count l.shape;
  tried : (x : ℕ) → x < l.t → RobustFrom l.shape l.deck.ballots (take l.u l.fn.sources ++ x ∷ []);
}

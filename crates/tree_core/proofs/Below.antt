-- The states below the root.
use Rattle.std.proofs.Common.{◌≡◌, ℕ, ◌<◌, Some, List, [], ◌∷◌, sym, subst}
use Rattle.tree_core.specs.declared.node.Node.{Node}
use Rattle.tree_core.specs.declared.walk.Entry.{Entry}
use Rattle.tree_core.specs.Steps.{Steps, IsBelow, is_root, is_under}
use Rattle.tree_core.specs.Walk.{Stands}
use Rattle.tree_core.proofs.Walks.{entered_kid}

module _ {S B R : Type 0} (steps : Steps S B R) (own : S → Type 0) where
  -- the state at hand lies below the root
  pub stands_below : (nodes : List (Node B R)) (root : S) (way : List Entry) (s : S)
      (to_come : List S) → Stands steps own nodes root way s to_come → IsBelow steps own root s
  stands_below nodes root [] s to_come h = subst (IsBelow steps own root) (sym h.1) is_root
  stands_below nodes root (e ∷ es) s to_come h = is_under (stands_below nodes root es h.0 h.1 h.3) (entered_kid steps own nodes e h.0 s to_come h.1 h.2)

  -- a solution of a state below is one of the root
  pub below_solution : {V : Type 0} (sol : S → V → Type 0) (v : V)
      → ((s : S) (l : B) (n : ℕ) → own s → steps.arity s l ≡ Some n → (k : ℕ) → k < n
      → sol (steps.kid s l k) v → sol s v)
      → (root s : S) → IsBelow steps own root s → sol s v → sol root v
  below_solution sol v up root s is_root x = x
  below_solution sol v up root s (is_under {s = t} {kid = kid} {l = l} {k = k} b i) x = below_solution sol v up root t b (up t l i.kids i.is_own i.arity k i.below (subst (λ u. sol u v) i.is_kid x))

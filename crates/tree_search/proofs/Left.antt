-- How many places are still to come, read off the way.
use Rattle.std.proofs.Common.{◌≡◌, ℕ, suc, ◌+◌, ◌-◌, ◌<◌, Option, Some, None, List, [], ◌∷◌, ◌++◌, length, ap, sym, ◌∙◌, arith, length-append}
use Rattle.std.specs.List.{slice_get}
use Rattle.tree_core.specs.declared.node.Node.{Node}
use Rattle.tree_core.specs.declared.node.Node.TheVariants.{Close, Fork, Open}
use Rattle.tree_core.specs.declared.walk.Entry.{Entry}
use Rattle.tree_core.specs.Steps.{Steps}
use Rattle.tree_core.specs.Places.{kids_from, after}
use Rattle.tree_core.specs.Walk.{Stands, IsAt}
use Rattle.tree_core.proofs.Ahead.{ahead-append, length-kids_from}

-- the number of kids of a node, where there is one
abbrev pub kids_in : {B R : Type 0} → Option (Node B R) → ℕ
kids_in None = 0
kids_in (Some (Close r)) = 0
kids_in (Some (Fork l n)) = n
kids_in (Some Open) = 0

-- the kids that the Forks on the way still want
abbrev pub left_of : {B R : Type 0} → List (Node B R) → List Entry → ℕ
left_of nodes [] = 0
left_of nodes (e ∷ es) = (kids_in (slice_get nodes e.node) - e.next) + left_of nodes es

module _ {S B R : Type 0} (steps : Steps S B R) (own : S → Type 0) where
  length-left : (nodes : List (Node B R)) (root : S) (way : List Entry) (s : S) (to_come : List S)
      → Stands steps own nodes root way s to_come → length to_come ≡ left_of nodes way
  length-left nodes root [] s to_come h = ap length h.2
  length-left nodes root (e ∷ es) s to_come h =
      let others = length-left nodes root es h.0 h.1 h.3 in
      let kids : kids_in (slice_get nodes e.node) ≡ h.2.kids = ap kids_in h.2.node in
      let long : length to_come ≡ h.2.left + length h.1 =
      ap length h.2.is_rest ∙ length-append (kids_from steps h.0 h.2.label (suc h.2.kid) h.2.left) h.1
      ∙ ap (λ n. n + length h.1) (length-kids_from steps h.0 h.2.label (suc h.2.kid) h.2.left) in
      omega (arith, others, kids, long, h.2.enough, h.2.next)

  -- an open node leaves one place fewer
  pub fewer : (nodes : List (Node B R)) (root : S) (way next : List Entry) (s t : S)
      → IsAt steps own root nodes way s → IsAt steps own root (nodes ++ (Open ∷ [])) next t
      → left_of (nodes ++ (Open ∷ [])) next < left_of nodes way
  fewer nodes root way next s t a b =
      let same : t ∷ b.to_come ≡ a.to_come = sym b.walk ∙ ahead-append steps (root ∷ []) nodes (Open ∷ []) ∙ ap (λ ss. after steps ss Open) a.walk in
      let one = ap length same in
      omega (arith, one, length-left nodes root way s a.to_come a.stands, length-left (nodes ++ (Open ∷ [])) root next t b.to_come b.stands)

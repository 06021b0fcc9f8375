-- A tree is read back from its nodes.
use Rattle.std.proofs.Common.{◌≡◌, suc, List, [], ◌∷◌, ◌++◌, length, refl, ap, sym, ◌∙◌, subst, append_assoc, flat_map}
use Rattle.std.specs.List.{AllByRecursion}
use Rattle.std.proofs.lemmas.List.{append-nil}
use Rattle.tree_core.specs.declared.node.Node.{Node}
use Rattle.tree_core.specs.declared.node.Node.TheVariants.{Fork}
use Rattle.tree_core.specs.Rose.{Rose, Closed, Forked, Opened, Roses, none, more, count, preorder, preorder_all}
use Rattle.tree_core.specs.Reading.{front, behind, trees_of, tree_of, first, IsTree}

-- trees, and others behind them
abbrev pub join : {B R : Type 0} → Roses B R → Roses B R → Roses B R
join none us = us
join (more t ts) us = more t (join ts us)

pub front-join : {B R : Type 0} (ts us : Roses B R) → front (count ts) (join ts us) ≡ ts
front-join none us = refl
front-join (more t ts) us = ap (more t) (front-join ts us)

pub behind-join : {B R : Type 0} (ts us : Roses B R) → behind (count ts) (join ts us) ≡ us
behind-join none us = refl
behind-join (more t ts) us = behind-join ts us

mutual
  pub trees_of-preorder : {B R : Type 0} (t : Rose B R) (ns : List (Node B R))
      → trees_of (preorder t ++ ns) ≡ more t (trees_of ns)
  trees_of-preorder (Closed r) ns = refl
  trees_of-preorder (Forked l ts) ns =
      let e = trees_of-preorder_all ts ns in
      rw (e, front-join ts (trees_of ns), behind-join ts (trees_of ns)) refl
  trees_of-preorder Opened ns = refl

  pub trees_of-preorder_all : {B R : Type 0} (ts : Roses B R) (ns : List (Node B R))
      → trees_of (preorder_all ts ++ ns) ≡ join ts (trees_of ns)
  trees_of-preorder_all none ns = refl
  trees_of-preorder_all (more t ts) ns =
      rw (append_assoc (preorder t) (preorder_all ts) ns, trees_of-preorder t (preorder_all ts ++ ns), trees_of-preorder_all ts ns) refl

-- the tree that is read from a tree's nodes is that tree
pub tree_of-preorder : {B R : Type 0} (t : Rose B R) → tree_of (preorder t) ≡ t
tree_of-preorder t = ap first (ap trees_of (sym (append-nil (preorder t))) ∙ trees_of-preorder t [])

-- a tree's nodes list one tree
pub IsTree-preorder : {B R : Type 0} (t : Rose B R) → IsTree (preorder t)
IsTree-preorder t = ap preorder (tree_of-preorder t)

pub IsTree-by : {B R : Type 0} (t : Rose B R) (ns : List (Node B R)) → preorder t ≡ ns → IsTree ns
IsTree-by t ns e = subst IsTree e (IsTree-preorder t)

abbrev roses_of : {B R : Type 0} → List (List (Node B R)) → Roses B R
roses_of [] = none
roses_of (ns ∷ nss) = more (tree_of ns) (roses_of nss)

count-roses_of : {B R : Type 0} (nss : List (List (Node B R))) → count (roses_of nss) ≡ length nss
count-roses_of [] = refl
count-roses_of (ns ∷ nss) = ap suc (count-roses_of nss)

preorder-roses_of : {B R : Type 0} (nss : List (List (Node B R))) → AllByRecursion IsTree nss
    → preorder_all (roses_of nss) ≡ flat_map (λ k. k) nss
preorder-roses_of [] a = refl
preorder-roses_of (ns ∷ nss) a = rw (a.0, preorder-roses_of nss a.1) refl

-- a Fork over lists that each list one tree lists one tree
pub IsTree-fork : {B R : Type 0} (l : B) (nss : List (List (Node B R))) → AllByRecursion IsTree nss
    → IsTree (Fork l (length nss) ∷ flat_map (λ k. k) nss)
IsTree-fork l nss a =
    IsTree-by (Forked l (roses_of nss)) _ (rw (count-roses_of nss, preorder-roses_of nss a) refl)

-- The states that are still to come.
use Rattle.std.proofs.Common.{◌≡◌, ℕ, zero, suc, Some, List, [], ◌∷◌, ◌++◌, length, take, refl, ap, sym, ◌∙◌, append_assoc}
use Rattle.std.specs.List.{slice_get}
use Rattle.std.proofs.lemmas.List.{append-nil}
use Rattle.tree_core.specs.declared.node.Node.{Node}
use Rattle.tree_core.specs.Rose.{Rose, Closed, Forked, Opened, Roses, none, more, count, preorder, preorder_all}
use Rattle.tree_core.specs.Reading.{tree_of, IsTree}
use Rattle.tree_core.specs.Steps.{Steps}
use Rattle.tree_core.specs.Places.{kids_from, after, ahead}
use Rattle.tree_core.proofs.Lists.{take-next}

module _ {S B R : Type 0} (steps : Steps S B R) where
  pub length-kids_from : (s : S) (l : B) (k n : ℕ) → length (kids_from steps s l k n) ≡ n
  length-kids_from s l k zero = refl
  length-kids_from s l k (suc n) = ap suc (length-kids_from s l (suc k) n)

  pub ahead-nil : (ns : List (Node B R)) → ahead steps [] ns ≡ []
  ahead-nil [] = refl
  ahead-nil (n ∷ ns) = ahead-nil ns

  pub ahead-append : (ss : List S) (ns ms : List (Node B R))
      → ahead steps ss (ns ++ ms) ≡ ahead steps (ahead steps ss ns) ms
  ahead-append ss [] ms = refl
  ahead-append ss (n ∷ ns) ms = ahead-append (after steps ss n) ns ms

  mutual
    pub ahead-preorder : (t : Rose B R) (s : S) (ss : List S) (ns : List (Node B R))
        → ahead steps (s ∷ ss) (preorder t ++ ns) ≡ ahead steps ss ns
    ahead-preorder (Closed r) s ss ns = refl
    ahead-preorder (Forked l ts) s ss ns = ahead-preorder_all ts s l 0 ss ns
    ahead-preorder Opened s ss ns = refl

    pub ahead-preorder_all : (ts : Roses B R) (s : S) (l : B) (k : ℕ) (ss : List S)
        (ns : List (Node B R))
        → ahead steps (kids_from steps s l k (count ts) ++ ss) (preorder_all ts ++ ns)
        ≡ ahead steps ss ns
    ahead-preorder_all none s l k ss ns = refl
    ahead-preorder_all (more t ts) s l k ss ns =
        ap (ahead steps (steps.kid s l k ∷ (kids_from steps s l (suc k) (count ts) ++ ss))) (append_assoc (preorder t) (preorder_all ts) ns)
        ∙ ahead-preorder t (steps.kid s l k) (kids_from steps s l (suc k) (count ts) ++ ss) (preorder_all ts ++ ns)
        ∙ ahead-preorder_all ts s l (suc k) ss ns

  -- behind a tree nothing is to come
  pub ahead-tree : (s : S) (ns : List (Node B R)) → IsTree ns → ahead steps (s ∷ []) ns ≡ []
  ahead-tree s ns h = ap (ahead steps (s ∷ [])) (sym (append-nil (preorder (tree_of ns)) ∙ h)) ∙ ahead-preorder (tree_of ns) s [] []

  -- what is to come after one more node
  pub ahead-next : (s : S) (ns : List (Node B R)) (i : ℕ) (n : Node B R) → slice_get ns i ≡ Some n
      → ahead steps (s ∷ []) (take (suc i) ns) ≡ after steps (ahead steps (s ∷ []) (take i ns)) n
  ahead-next s ns i n at = ap (ahead steps (s ∷ [])) (take-next ns i n at) ∙ ahead-append (s ∷ []) (take i ns) (n ∷ [])

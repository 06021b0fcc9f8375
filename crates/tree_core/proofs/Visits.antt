-- The states that a walk visits are those of the tree.
use Rattle.std.proofs.Common.{◌≡◌, ℕ, zero, suc, ◌<◌, Option, Some, None, List, [], ◌∷◌, ◌++◌, length, take, refl, ap, sym, ◌∙◌, arith, append_assoc, length-append}
use Rattle.std.specs.List.{slice_get}
use Rattle.std.proofs.lemmas.List.{append-nil}
use Rattle.tree_core.specs.declared.node.Node.{Node}
use Rattle.tree_core.specs.Rose.{Rose, Closed, Forked, Opened, Roses, none, more, count, preorder, preorder_all}
use Rattle.tree_core.specs.Reading.{tree_of, IsTree}
use Rattle.tree_core.specs.Steps.{Steps}
use Rattle.tree_core.specs.Places.{kids_from, after, ahead, state_at, states_of, states_of_all}
use Rattle.tree_core.proofs.Lists.{none_past}
use Rattle.tree_core.proofs.Ahead.{ahead-nil}

module _ {S B R : Type 0} (steps : Steps S B R) where
  -- the states of the nodes, by the walk
  abbrev pub visited : List S → List (Node B R) → List S
  visited ss [] = []
  visited [] (n ∷ ns) = []
  visited (s ∷ ss) (n ∷ ns) = s ∷ visited (after steps (s ∷ ss) n) ns

  mutual
    pub visited-preorder : (t : Rose B R) (s : S) (ss : List S) (ns : List (Node B R))
        → visited (s ∷ ss) (preorder t ++ ns) ≡ states_of steps s t ++ visited ss ns
    visited-preorder (Closed r) s ss ns = refl
    visited-preorder (Forked l ts) s ss ns = ap (λ xs. s ∷ xs) (visited-preorder_all ts s l 0 ss ns)
    visited-preorder Opened s ss ns = refl

    pub visited-preorder_all : (ts : Roses B R) (s : S) (l : B) (k : ℕ) (ss : List S)
        (ns : List (Node B R))
        → visited (kids_from steps s l k (count ts) ++ ss) (preorder_all ts ++ ns)
        ≡ states_of_all steps s l k ts ++ visited ss ns
    visited-preorder_all none s l k ss ns = refl
    visited-preorder_all (more t ts) s l k ss ns =
        ap (visited (steps.kid s l k ∷ (kids_from steps s l (suc k) (count ts) ++ ss))) (append_assoc (preorder t) (preorder_all ts) ns)
        ∙ visited-preorder t (steps.kid s l k) (kids_from steps s l (suc k) (count ts) ++ ss) (preorder_all ts ++ ns)
        ∙ ap (λ xs. states_of steps (steps.kid s l k) t ++ xs) (visited-preorder_all ts s l (suc k) ss ns)
        ∙ sym (append_assoc (states_of steps (steps.kid s l k) t) (states_of_all steps s l (suc k) ts) (visited ss ns))

  -- at each place the walk is at the state that it visits there
  pub visited-at : (ss : List S) (ns : List (Node B R)) (i : ℕ) → i < length ns
      → slice_get (visited ss ns) i ≡ slice_get (ahead steps ss (take i ns)) 0
  visited-at ss [] i h = absurd (omega arith)
  visited-at [] (n ∷ ns) zero h = refl
  visited-at [] (n ∷ ns) (suc i) h = ap (λ xs. slice_get xs 0) (sym (ahead-nil steps (take i ns)))
  visited-at (s ∷ ss) (n ∷ ns) zero h = refl
  visited-at (s ∷ ss) (n ∷ ns) (suc i) h = visited-at (after steps (s ∷ ss) n) ns i (omega arith)

  mutual
    pub length-states_of : (t : Rose B R) (s : S)
        → length (states_of steps s t) ≡ length (preorder t)
    length-states_of (Closed r) s = refl
    length-states_of (Forked l ts) s = ap suc (length-states_of_all ts s l 0)
    length-states_of Opened s = refl

    pub length-states_of_all : (ts : Roses B R) (s : S) (l : B) (k : ℕ)
        → length (states_of_all steps s l k ts) ≡ length (preorder_all ts)
    length-states_of_all none s l k = refl
    length-states_of_all (more t ts) s l k =
        omega (
          arith,
          length-append (states_of steps (steps.kid s l k) t) (states_of_all steps s l (suc k) ts),
          length-append (preorder t) (preorder_all ts),
          length-states_of t (steps.kid s l k),
          length-states_of_all ts s l (suc k),
        )

  -- the state at a place is the state of that node in the tree
  pub state_of_tree : (t : Rose B R) (s : S) (i : ℕ) → i < length (preorder t)
      → state_at steps s (preorder t) i ≡ slice_get (states_of steps s t) i
  state_of_tree t s i h =
      sym (visited-at (s ∷ []) (preorder t) i h)
      ∙ ap (λ xs. slice_get xs i) (ap (visited (s ∷ [])) (sym (append-nil (preorder t))) ∙ visited-preorder t s [] [] ∙ append-nil (states_of steps s t))

  -- at each place of a tree there is a state
  pub state_at-tree : (s : S) (ns : List (Node B R)) (i : ℕ) → IsTree ns → i < length ns
      → (t : S) × (state_at steps s ns i ≡ Some t)
  state_at-tree s ns i h below = have (slice_get (states_of steps s (tree_of ns)) i) refl
    where
      inside : i < length (preorder (tree_of ns))
      inside = rw h below

      long : i < length (states_of steps s (tree_of ns))
      long = rw (length-states_of (tree_of ns) s) inside

      is : state_at steps s ns i ≡ slice_get (states_of steps s (tree_of ns)) i
      is = ap (λ ms. state_at steps s ms i) (sym h) ∙ state_of_tree (tree_of ns) s i inside

      have : (o : Option S) → slice_get (states_of steps s (tree_of ns)) i ≡ o
          → (t : S) × (state_at steps s ns i ≡ Some t)
      have None e = absurd (none_past (states_of steps s (tree_of ns)) i long e)
      have (Some t) e = (t, is ∙ e)

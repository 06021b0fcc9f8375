-- A walk that comes to its end has gone over one tree.
use Rattle.std.proofs.Common.{◌≡◌, ℕ, zero, suc, ◌+◌, ◌≤◌, List, [], ◌∷◌, ◌++◌, length, refl, ap, sym, ◌∙◌, append_assoc, arith, length-append}
use Rattle.std.proofs.lemmas.List.{append-nil}
use Rattle.tree_core.specs.declared.node.Node.{Node}
use Rattle.tree_core.specs.declared.node.Node.TheVariants.{Close, Fork, Open}
use Rattle.tree_core.specs.Rose.{Roses, none, more, count, preorder, preorder_all}
use Rattle.tree_core.specs.Reading.{front, behind, trees_of, first, IsTree}
use Rattle.tree_core.specs.Steps.{Steps}
use Rattle.tree_core.specs.Places.{kids_from, after, ahead}
use Rattle.tree_core.proofs.Ahead.{ahead-nil, length-kids_from}

count-front : {B R : Type 0} (n : ℕ) (ts : Roses B R) → n ≤ count ts → count (front n ts) ≡ n
count-front zero ts h = refl
count-front (suc n) none h = absurd (omega arith)
count-front (suc n) (more t ts) h = ap suc (count-front n ts (omega arith))

count-behind : {B R : Type 0} (n : ℕ) (ts : Roses B R) → n ≤ count ts
    → n + count (behind n ts) ≡ count ts
count-behind zero ts h = omega arith
count-behind (suc n) none h = absurd (omega arith)
count-behind (suc n) (more t ts) h = omega (arith, count-behind n ts (omega arith))

preorder-split : {B R : Type 0} (n : ℕ) (ts : Roses B R)
    → preorder_all (front n ts) ++ preorder_all (behind n ts) ≡ preorder_all ts
preorder-split zero ts = refl
preorder-split (suc n) none = refl
preorder-split (suc n) (more t ts) = append_assoc (preorder t) (preorder_all (front n ts)) (preorder_all (behind n ts)) ∙ ap (λ xs. preorder t ++ xs) (preorder-split n ts)

-- nodes that use up w states list w trees
pub listed : {S B R : Type 0} (steps : Steps S B R) (ss : List S) (ns : List (Node B R))
    (n : Node B R) (s : S) (tc : List S)
    → ahead steps ss ns ≡ s ∷ tc → after steps (s ∷ tc) n ≡ []
    → (preorder_all (trees_of (ns ++ (n ∷ []))) ≡ ns ++ (n ∷ []))
    × (count (trees_of (ns ++ (n ∷ []))) ≡ length ss)
listed steps ss [] (Close r) s tc e d = (refl, rw e (rw d refl))
listed steps ss [] Open s tc e d = (refl, rw e (rw d refl))
listed steps ss [] (Fork l zero) s tc e d = (refl, rw e (rw d refl))
listed steps ss [] (Fork l (suc k)) s tc e d = absurd (cc)
listed steps [] (m ∷ ns) n s tc e d = let f : [] ≡ s ∷ tc = sym (ahead-nil steps ns) ∙ e in absurd (cc)
listed steps (t ∷ ss) (Close r ∷ ns) n s tc e d = let h = listed steps ss ns n s tc e d in (ap (λ xs. Close r ∷ xs) h.0, ap suc h.1)
listed steps (t ∷ ss) (Open ∷ ns) n s tc e d = let h = listed steps ss ns n s tc e d in (ap (λ xs. Open ∷ xs) h.0, ap suc h.1)
listed steps (t ∷ ss) (Fork l k ∷ ns) n s tc e d =
    let h = listed steps (kids_from steps t l 0 k ++ ss) ns n s tc e d in
    let many : count (trees_of (ns ++ (n ∷ []))) ≡ k + length ss = h.1 ∙ length-append (kids_from steps t l 0 k) ss ∙ ap (λ j. j + length ss) (length-kids_from steps t l 0 k) in (
      ap (λ j. Fork l j ∷ (preorder_all (front k (trees_of (ns ++ (n ∷ [])))) ++ preorder_all (behind k (trees_of (ns ++ (n ∷ [])))))) (count-front k (trees_of (ns ++ (n ∷ []))) (omega arith))
          ∙ ap (λ xs. Fork l k ∷ xs) (preorder-split k (trees_of (ns ++ (n ∷ []))) ∙ h.0),
      omega (arith, count-behind k (trees_of (ns ++ (n ∷ []))) (omega arith)),
    )

one_tree : {B R : Type 0} (ns : List (Node B R)) (ts : Roses B R) → trees_of ns ≡ ts
    → preorder_all ts ≡ ns → count ts ≡ 1 → IsTree ns
one_tree ns none e p c = absurd (omega arith)
one_tree ns (more t none) e p c = ap (λ us. preorder (first us)) e ∙ sym (append-nil (preorder t)) ∙ p
one_tree ns (more t (more u us)) e p c = absurd (omega arith)

-- a walk that comes to its end has gone over one tree
pub IsTree-walk : {S B R : Type 0} (steps : Steps S B R) (root : S) (ns : List (Node B R))
    (n : Node B R) (s : S) (tc : List S)
    → ahead steps (root ∷ []) ns ≡ s ∷ tc → after steps (s ∷ tc) n ≡ [] → IsTree (ns ++ (n ∷ []))
IsTree-walk steps root ns n s tc e d =
    let h = listed steps (root ∷ []) ns n s tc e d in
    one_tree (ns ++ (n ∷ [])) (trees_of (ns ++ (n ∷ []))) refl h.0 h.1

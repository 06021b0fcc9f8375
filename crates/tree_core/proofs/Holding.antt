-- A list of nodes holds at each place exactly where its tree checks.
use Rattle.std.proofs.Common.{◌≡◌, ℕ, zero, suc, Bool, Some, None, List, [], ◌∷◌, ◌++◌, take, refl, ap, sym, ◌∙◌, subst, append_assoc}
use Rattle.std.specs.List.{slice_get}
use Rattle.std.proofs.lemmas.List.{append-nil}
use Rattle.tree_core.specs.declared.node.Node.{Node}
use Rattle.tree_core.specs.Rose.{Rose, Closed, Forked, Opened, Roses, none, more, count, preorder, preorder_all}
use Rattle.tree_core.specs.Reading.{tree_of, IsTree}
use Rattle.tree_core.specs.Steps.{Steps}
use Rattle.tree_core.specs.Checks.{ChecksWith, KidsCheckWith, NodeHolds}
use Rattle.tree_core.specs.Places.{kids_from, after, ahead, EachPlace, IsFirstFault}
use Rattle.tree_core.proofs.Ahead.{ahead-nil}

module _ {S B R : Type 0} (steps : Steps S B R) (open_holds : Bool) where
  -- each node holds at the state that the walk has there
  abbrev pub HoldsAll : List S → List (Node B R) → Type 0
  HoldsAll ss [] = Unit {0}
  HoldsAll [] (n ∷ ns) = Unit {0}
  HoldsAll (s ∷ ss) (n ∷ ns) = NodeHolds open_holds steps s n × HoldsAll (after steps (s ∷ ss) n) ns

  mutual
    pub checks_from_all : (t : Rose B R) (s : S) (ss : List S) (ns : List (Node B R))
        → HoldsAll (s ∷ ss) (preorder t ++ ns) → ChecksWith open_holds steps s t × HoldsAll ss ns
    checks_from_all (Closed r) s ss ns h = (h.0, h.1)
    checks_from_all (Forked l ts) s ss ns h = let k = kids_from_all ts s l 0 ss ns h.1 in ((h.0, k.0), k.1)
    checks_from_all Opened s ss ns h = (h.0, h.1)

    pub kids_from_all : (ts : Roses B R) (s : S) (l : B) (k : ℕ) (ss : List S)
        (ns : List (Node B R))
        → HoldsAll (kids_from steps s l k (count ts) ++ ss) (preorder_all ts ++ ns)
        → KidsCheckWith open_holds steps s l k ts × HoldsAll ss ns
    kids_from_all none s l k ss ns h = (tt, h)
    kids_from_all (more t ts) s l k ss ns h =
        let first = checks_from_all t (steps.kid s l k) (kids_from steps s l (suc k) (count ts) ++ ss) (preorder_all ts ++ ns)
        (subst (HoldsAll (steps.kid s l k ∷ (kids_from steps s l (suc k) (count ts) ++ ss))) (append_assoc (preorder t) (preorder_all ts) ns) h) in
        let others = kids_from_all ts s l (suc k) ss ns first.1 in
        ((first.0, others.0), others.1)

  mutual
    pub all_from_checks : (t : Rose B R) (s : S) (ss : List S) (ns : List (Node B R))
        → ChecksWith open_holds steps s t → HoldsAll ss ns → HoldsAll (s ∷ ss) (preorder t ++ ns)
    all_from_checks (Closed r) s ss ns c h = (c, h)
    all_from_checks (Forked l ts) s ss ns c h = (c.0, all_from_kids ts s l 0 ss ns c.1 h)
    all_from_checks Opened s ss ns c h = (c, h)

    pub all_from_kids : (ts : Roses B R) (s : S) (l : B) (k : ℕ) (ss : List S)
        (ns : List (Node B R))
        → KidsCheckWith open_holds steps s l k ts → HoldsAll ss ns
        → HoldsAll (kids_from steps s l k (count ts) ++ ss) (preorder_all ts ++ ns)
    all_from_kids none s l k ss ns c h = h
    all_from_kids (more t ts) s l k ss ns c h =
        subst (HoldsAll (steps.kid s l k ∷ (kids_from steps s l (suc k) (count ts) ++ ss))) (sym (append_assoc (preorder t) (preorder_all ts) ns))
        (all_from_checks t (steps.kid s l k) (kids_from steps s l (suc k) (count ts) ++ ss) (preorder_all ts ++ ns) c.0 (all_from_kids ts s l (suc k) ss ns c.1 h))

  abbrev pub HoldsAt : List S → List (Node B R) → Type 0
  HoldsAt ss ns = (i : ℕ) (s : S) (n : Node B R) → slice_get ns i ≡ Some n → slice_get (ahead steps ss (take i ns)) 0 ≡ Some s → NodeHolds open_holds steps s n

  pub all_from_each : (ss : List S) (ns : List (Node B R)) → HoldsAt ss ns → HoldsAll ss ns
  all_from_each ss [] h = tt
  all_from_each [] (n ∷ ns) h = tt
  all_from_each (s ∷ ss) (n ∷ ns) h = (h 0 s n refl refl, all_from_each (after steps (s ∷ ss) n) ns (λ i. h (suc i)))

  pub each_from_all : (ss : List S) (ns : List (Node B R)) → HoldsAll ss ns → HoldsAt ss ns
  each_from_all ss [] h i t m get state = absurd (cc)
  each_from_all [] (n ∷ ns) h i t m get state =
      let e : ahead steps [] (take i (n ∷ ns)) ≡ [] = ahead-nil steps (take i (n ∷ ns)) in
      let f : None ≡ Some t = sym (ap (λ (xs : List S). slice_get xs 0) e) ∙ state in absurd (cc)
  each_from_all (s ∷ ss) (n ∷ ns) h zero t m get state =
      let nm : n ≡ m = cc in
      let st : s ≡ t = cc in
      rw (← nm, ← st) h.0
  each_from_all (s ∷ ss) (n ∷ ns) h (suc i) t m get state = each_from_all (after steps (s ∷ ss) n) ns h.1 i t m get state

  -- a list that lists a tree holds at each place exactly where the tree checks
  pub checks_from_each : (s : S) (ns : List (Node B R)) → IsTree ns
      → EachPlace steps s ns (λ _ t n. NodeHolds open_holds steps t n)
      → ChecksWith open_holds steps s (tree_of ns)
  checks_from_each s ns tree h =
      (checks_from_all (tree_of ns) s [] [] (subst (HoldsAll (s ∷ [])) (sym (append-nil (preorder (tree_of ns)) ∙ tree)) (all_from_each (s ∷ []) ns h))).0

  pub each_from_checks : (s : S) (ns : List (Node B R)) → IsTree ns
      → ChecksWith open_holds steps s (tree_of ns)
      → EachPlace steps s ns (λ _ t n. NodeHolds open_holds steps t n)
  each_from_checks s ns tree h =
      each_from_all (s ∷ []) ns (subst (HoldsAll (s ∷ [])) (append-nil (preorder (tree_of ns)) ∙ tree) (all_from_checks (tree_of ns) s [] [] h tt))

  -- a fault keeps the tree from checking
  pub fault_refutes : (s : S) (ns : List (Node B R)) (i : ℕ) → IsTree ns
      → IsFirstFault open_holds steps s ns i → ChecksWith open_holds steps s (tree_of ns) → ⊥
  fault_refutes s ns i tree f h = f.fails (each_from_checks s ns tree h i f.state f.node f.is_node f.at_place)

-- Where a walk has come to.
use Rattle.std.proofs.Common.{◌≡◌, ℕ, ◌<◌, Bool, true, false, Some, List, [], ◌∷◌, ◌++◌, length, take, refl, ap, sym, ◌∙◌, subst}
use Rattle.std.specs.List.{slice_get}
use Rattle.tree_core.specs.declared.node.Node.{Node}
use Rattle.tree_core.specs.declared.walk.Entry.{Entry}
use Rattle.tree_core.specs.Reading.{IsTree}
use Rattle.tree_core.specs.Steps.{Steps}
use Rattle.tree_core.specs.Places.{after, ahead}
use Rattle.tree_core.specs.Walk.{Stands, Lands, IsAt}
use Rattle.tree_core.proofs.Ahead.{ahead-append}
use Rattle.tree_core.proofs.Visits.{state_at-tree}
use Rattle.tree_core.proofs.OneTree.{IsTree-walk}

module _ {S B R : Type 0} (steps : Steps S B R) (own : S → Type 0) where
  -- where something is to come, the walk is at the first of it
  pub lands_at : (nodes : List (Node B R)) (root : S) (way : List Entry) (here : S) (found : Bool)
      (ss : List S) (t : S) → Lands steps own nodes root way here found ss → slice_get ss 0 ≡ Some t
      → (to_come : List S) × (ss ≡ here ∷ to_come) × Stands steps own nodes root way here to_come
  lands_at nodes root way here found [] t h e = absurd (cc)
  lands_at nodes root way here found (s ∷ ss) t h e = (ss, ap (λ x. x ∷ ss) (sym h.1), h.2)

  -- where nothing is, it is back
  pub lands_back : (nodes : List (Node B R)) (root : S) (way : List Entry) (here : S) (found : Bool)
      (ss : List S) → Lands steps own nodes root way here found ss → ss ≡ [] → here ≡ root
  lands_back nodes root way here found [] h e = h.2
  lands_back nodes root way here found (s ∷ ss) h e = absurd (cc)

  -- either way the way leads from the root to the state at hand
  pub lands_on_way : (nodes : List (Node B R)) (root : S) (way : List Entry) (here : S)
      (found : Bool) (ss : List S) → own root → Lands steps own nodes root way here found ss
      → (to_come : List S) × Stands steps own nodes root way here to_come
  lands_on_way nodes root way here found [] o h = ([], subst (λ w. Stands steps own nodes root w here []) (sym h.1) (o, h.2, refl))
  lands_on_way nodes root way here found (s ∷ ss) o h = (ss, h.2)

  -- at each place of a tree the walk is at the state at hand
  pub at_place : (nodes : List (Node B R)) (root : S) (way : List Entry) (i : ℕ) (here : S)
      (found : Bool) → IsTree nodes → i < length nodes
      → Lands steps own nodes root way here found (ahead steps (root ∷ []) (take i nodes))
      → (to_come : List S) × (ahead steps (root ∷ []) (take i nodes) ≡ here ∷ to_come)
      × Stands steps own nodes root way here to_come
  at_place nodes root way i here found tree below h =
      let t = state_at-tree steps root nodes i tree below in
      lands_at nodes root way here found (ahead steps (root ∷ []) (take i nodes)) t.0 h t.1

  -- a move that found a place is at the first state to come
  pub lands_true : (nodes : List (Node B R)) (root : S) (way : List Entry) (s : S) (found : Bool)
      (ss : List S) → found ≡ true → Lands steps own nodes root way s found ss
      → (to_come : List S) × (ss ≡ s ∷ to_come) × Stands steps own nodes root way s to_come
  lands_true nodes root way s found [] e h = absurd (cc)
  lands_true nodes root way s found (u ∷ us) e h = (us, ap (λ x. x ∷ us) (sym h.1), h.2)

  -- a move that found none is back, and nothing is to come
  pub lands_false : (nodes : List (Node B R)) (root : S) (way : List Entry) (s : S) (found : Bool)
      (ss : List S) → found ≡ false → Lands steps own nodes root way s found ss
      → (ss ≡ []) × (s ≡ root)
  lands_false nodes root way s found [] e h = (refl, h.2)
  lands_false nodes root way s found (u ∷ us) e h = absurd (cc)

  -- the walk goes on over one more node
  pub at_next : (nodes : List (Node B R)) (n : Node B R) (root : S) (old new : List Entry) (s t : S)
      (found : Bool) → found ≡ true → (at : IsAt steps own root nodes old s)
      → Lands steps own (nodes ++ (n ∷ [])) root new t found (after steps (s ∷ at.to_come) n)
      → IsAt steps own root (nodes ++ (n ∷ [])) new t
  at_next nodes n root old new s t found e at h =
      let l = lands_true (nodes ++ (n ∷ [])) root new t found (after steps (s ∷ at.to_come) n) e h in
      record { to_come = l.0; walk = ahead-append steps (root ∷ []) nodes (n ∷ []) ∙ ap (λ ss. after steps ss n) at.walk ∙ l.1; stands = l.2 }

  -- or it has gone over one tree, and is back
  pub at_end : (nodes : List (Node B R)) (n : Node B R) (root : S) (old new : List Entry) (s t : S)
      (found : Bool) → found ≡ false → (at : IsAt steps own root nodes old s)
      → Lands steps own (nodes ++ (n ∷ [])) root new t found (after steps (s ∷ at.to_come) n)
      → IsTree (nodes ++ (n ∷ [])) × (t ≡ root)
  at_end nodes n root old new s t found e at h =
      let l = lands_false (nodes ++ (n ∷ [])) root new t found (after steps (s ∷ at.to_come) n) e h in
      (IsTree-walk steps root nodes n s at.to_come at.walk l.0, l.1)

  -- a walk begins at the root
  pub at_start : (root : S) → own root → IsAt steps own root [] [] root
  at_start root o = record { to_come = []; walk = refl; stands = (o, refl, refl) }

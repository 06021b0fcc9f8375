-- A walk over the front of a tree, one more node at a time.
use Rattle.std.proofs.Common.{◌≡◌, ℕ, zero, suc, ◌+◌, ◌<◌, Bool, true, false, Some, List, [], ◌∷◌, ◌++◌, length, take, reverse, refl, sym, ap, subst, ◌∙◌, arith, length-append}
use Rattle.std.specs.List.{slice_get}
use Rattle.std.proofs.lemmas.List.{take_at, take-append-le}
use Rattle.std.proofs.lemmas.Option.{none-some, same_Some, slice_get_within}
use Rattle.tree_core.specs.declared.node.Node.{Node}
use Rattle.tree_core.specs.declared.node.Node.TheVariants.{Close, Fork, Open}
use Rattle.tree_core.specs.declared.walk.Entry.{Entry}
use Rattle.tree_core.specs.Steps.{Steps}
use Rattle.tree_core.specs.Checks.{NodeHolds}
use Rattle.tree_core.specs.Places.{kids_from, after, ahead, EachPlace, IsFirstFault}
use Rattle.tree_core.specs.Walk.{Stands, Lands}
use Rattle.tree_core.proofs.Ahead.{ahead-append, length-kids_from}
use Rattle.tree_core.proofs.Each.{each_nil, each_snoc}
use Rattle.tree_core.proofs.Lists.{slice_get-last, slice_get-front}
use Rattle.cert_fields.specs.TreeReading.{kids_of, wanted_after}
use Rattle.cert_stream.specs.Walks.{IsStack, ComesTo, Stood}

module _ {S B R : Type 0} (steps : Steps S B R) where
  long_after : (s : S) (ss : List S) (n : Node B R)
      → length (after steps (s ∷ ss) n) ≡ length ss + kids_of n
  long_after s ss (Close r) = omega arith
  long_after s ss (Fork l k) = omega (arith, length-append (kids_from steps s l 0 k) ss, length-kids_from steps s l 0 k)
  long_after s ss Open = omega arith

  -- as many states are to come as trees are wanted
  long_ahead : (ns : List (Node B R)) (ss : List S) (w left : ℕ) → wanted_after w ns ≡ Some left
      → length ss ≡ w → length (ahead steps ss ns) ≡ left
  long_ahead [] ss w left e l = l ∙ same_Some w left e
  long_ahead (n ∷ ns) ss zero left e l = absurd (none-some left e)
  long_ahead (n ∷ ns) [] (suc w) left e l = absurd (omega (arith, l))
  long_ahead (n ∷ ns) (s ∷ ss) (suc w) left e l = long_ahead ns (after steps (s ∷ ss) n) (w + kids_of n) left e (omega (arith, long_after s ss n, l))

  -- a first fault of the front of a list is one of the list
  pub fault_grows : (root : S) (nodes more : List (Node B R)) (i : ℕ)
      → IsFirstFault false steps root nodes i → IsFirstFault false steps root (nodes ++ more) i
  fault_grows root nodes more i f =
      let within : i < length nodes = slice_get_within nodes i f.node f.is_node in
      let front : take i (nodes ++ more) ≡ take i nodes = take-append-le i nodes more (omega (arith, within)) in
      record {
        before = subst (λ (ns : List (Node B R)). EachPlace steps root ns (λ _ s node. NodeHolds false steps s node)) (sym front) f.before;
        state = f.state;
        node = f.node;
        at_place = ap (λ (ns : List (Node B R)). slice_get (ahead steps (root ∷ []) ns) 0) front ∙ f.at_place;
        is_node = slice_get-front nodes more i within ∙ f.is_node;
        fails = f.fails;
      }

  -- a node that doesn't hold behind nodes that do
  pub fault_behind : (root : S) (nodes : List (Node B R)) (node : Node B R) (here : S)
      (to_come : List S)
      → EachPlace steps root nodes (λ _ s n. NodeHolds false steps s n)
      → ahead steps (root ∷ []) nodes ≡ here ∷ to_come → (NodeHolds false steps here node → ⊥)
      → IsFirstFault false steps root (nodes ++ node ∷ []) (length nodes)
  fault_behind root nodes node here to_come each at fails =
      let front : take (length nodes) (nodes ++ node ∷ []) ≡ nodes = take_at nodes (node ∷ []) (length nodes) refl in
      record {
        before = subst (λ (ns : List (Node B R)). EachPlace steps root ns (λ _ s n. NodeHolds false steps s n)) (sym front) each;
        state = here;
        node = node;
        at_place = ap (λ (ns : List (Node B R)). slice_get (ahead steps (root ∷ []) ns) 0) front ∙ ap (λ (ss : List S). slice_get ss 0) at;
        is_node = slice_get-last nodes node;
        fails = fails;
      }

  module _ (own : S → Type 0) where
    -- a walk in a tree that is still wanted is at the state of the next node
    pub open_at : (root : S) (nodes forks : List (Node B R)) (way : List Entry) (here : S)
        (wanted : ℕ) → wanted_after 1 nodes ≡ Some wanted → 0 < wanted
        → Stood steps own root nodes forks way here
        → (to_come : List S) × (ahead steps (root ∷ []) nodes ≡ here ∷ to_come)
        × Stands steps own forks root (reverse way) here to_come
    open_at root nodes forks way here wanted e some stood =
        let many : length (ahead steps (root ∷ []) nodes) ≡ wanted = long_ahead nodes (root ∷ []) 1 wanted e refl in
        at_first (ahead steps (root ∷ []) nodes) stood.comes.0 stood.comes.1 (omega (arith, many, some))
      where
        at_first : (ss : List S) (found : Bool)
            → Lands steps own forks root (reverse way) here found ss → 0 < length ss
            → (to_come : List S) × (ss ≡ here ∷ to_come)
            × Stands steps own forks root (reverse way) here to_come
        at_first [] found h lt = absurd (omega (arith, lt))
        at_first (s ∷ ss) found h lt = (ss, ap (λ (x : S). x ∷ ss) (sym h.1), h.2)

    -- one more node that holds
    pub stood_next : (root : S) (nodes forks later : List (Node B R)) (way on : List Entry)
        (here there : S) (node : Node B R) (to_come : List S)
        → Stood steps own root nodes forks way here → ahead steps (root ∷ []) nodes ≡ here ∷ to_come
        → NodeHolds false steps here node
        → ComesTo steps own later root (reverse on) there (after steps (here ∷ to_come) node)
        → IsStack later on
        → Stood steps own root (nodes ++ node ∷ []) later on there
    stood_next root nodes forks later way on here there node to_come stood at holds comes stack = record {
      each = each_snoc steps root nodes node here (λ _ s n. NodeHolds false steps s n) stood.each (ap (λ (ss : List S). slice_get ss 0) at) holds;
      comes = (comes.0, rw (ahead-append steps (root ∷ []) nodes (node ∷ []), at) comes.1);
      stack = stack;
    }

    -- a walk that has not begun
    pub stood_start : (root : S) → own root → Stood steps own root [] [] [] root
    stood_start root is = record {
      each = each_nil steps root (λ _ s n. NodeHolds false steps s n);
      comes = (true, (refl, refl, (is, refl, refl)));
      stack = record { long = refl; places = refl };
    }

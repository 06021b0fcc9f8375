-- How a walk stands, and how it moves from one place to the next.
use Rattle.std.proofs.Common.{◌≡◌, ℕ, zero, suc, ◌+◌, ◌-◌, ◌<◌, ◌≤◌, Bool, true, Some, List, [], ◌∷◌, ◌++◌, reverse, refl, ap, sym, ◌∙◌, subst, arith}
use Rattle.std.specs.List.{slice_get}
use Rattle.std.proofs.lemmas.List.{reverse-append}
use Rattle.std.proofs.lemmas.Option.{slice_get_within}
use Rattle.tree_core.specs.declared.node.Node.{Node}
use Rattle.tree_core.specs.declared.node.Node.TheVariants.{Close, Fork, Open}
use Rattle.tree_core.specs.declared.walk.Entry.{Entry}
use Rattle.tree_core.specs.Steps.{Steps, IsKid}
use Rattle.tree_core.specs.Checks.{NodeHolds}
use Rattle.tree_core.specs.Places.{kids_from, after}
use Rattle.tree_core.specs.Walk.{Entered, Stands, Lands}
use Rattle.tree_core.proofs.Lists.{slice_get-front}

-- one node is a Fork in one way
pub label_is : {B R : Type 0} (x : Node B R) (l m : B) (j k : ℕ) → x ≡ Fork l j → x ≡ Fork m k
    → l ≡ m
label_is x l m j k p q = cc

pub kids_are : {B R : Type 0} (x : Node B R) (l m : B) (j k : ℕ) → x ≡ Fork l j → x ≡ Fork m k
    → j ≡ k
kids_are x l m j k p q = cc

-- a kid of one of the space's own states is one of its own
abbrev pub Keeps : {S B R : Type 0} → Steps S B R → (S → Type 0) → Type 0
Keeps {S} {B} steps own = (s : S) (l : B) (k : ℕ) (kid : S) → IsKid steps own s l k kid → own kid

-- a node that holds where open ones don't holds where they do
pub weaken : {S B R : Type 0} (open_holds : Bool) (steps : Steps S B R) (s : S) (node : Node B R)
    → NodeHolds open_holds steps s node → NodeHolds true steps s node
weaken open_holds steps s (Close r) h = h
weaken open_holds steps s (Fork l n) h = h
weaken open_holds steps s Open h = refl

module _ {S B R : Type 0} (steps : Steps S B R) (own : S → Type 0) where
  -- the state at hand is a kid of the one above
  pub entered_kid : (nodes : List (Node B R)) (e : Entry) (s here : S) (to_come rest : List S)
      (h : Entered steps own nodes e s here to_come rest) → IsKid steps own s h.label h.kid here
  entered_kid nodes e s here to_come rest h =
      record { kids = h.kids; is_own = h.is_own; arity = h.arity; below = omega (arith, h.enough); is_kid = h.is_kid }

  -- the state at hand is one of the space's own
  pub stands_own : Keeps steps own
      → (nodes : List (Node B R)) (root : S) (way : List Entry) (here : S) (to_come : List S)
      → Stands steps own nodes root way here to_come → own here
  stands_own keeps nodes root [] here to_come h = subst own (sym h.1) h.0
  stands_own keeps nodes root (e ∷ es) here to_come h =
      keeps _ _ _ here (entered_kid nodes e h.0 here to_come h.1 h.2)

  -- to the next kid of the innermost Fork
  pub to_kid : (nodes : List (Node B R)) (root : S) (e f : Entry) (es : List Entry) (here : S)
      (to_come : List S) (h : Stands steps own nodes root (e ∷ es) here to_come)
      → e.next < h.2.kids → f.node ≡ e.node → f.next ≡ suc e.next
      → Lands steps own nodes root (f ∷ es) (steps.kid h.0 h.2.label e.next) true to_come
  to_kid nodes root e f es here to_come h below n m = to_kid_by h.0 h.1 h.2 h.3 (h.2.left - 1) (omega (arith, h.2.enough, h.2.next)) (omega (arith, h.2.enough, h.2.next))
    where
      to_kid_by : (s : S) (rest : List S) (d : Entered steps own nodes e s here to_come rest)
          → Stands steps own nodes root es s rest → (left : ℕ) → d.left ≡ suc left
          → suc (suc d.kid) + left ≡ d.kids
          → Lands steps own nodes root (f ∷ es) (steps.kid s d.label e.next) true to_come
      to_kid_by s rest d st left le enough =
          let come : to_come ≡ steps.kid s d.label (suc d.kid) ∷ (kids_from steps s d.label (suc (suc d.kid)) left ++ rest) =
          d.is_rest ∙ ap (λ n. kids_from steps s d.label (suc d.kid) n ++ rest) le in
          rw come (
            refl,
            ap (steps.kid s d.label) d.next,
            (
              s,
              rest,
              record {
                label = d.label;
                kids = d.kids;
                kid = suc d.kid;
                left = left;
                is_own = d.is_own;
                node = rw n d.node;
                arity = d.arity;
                next = m ∙ ap suc d.next;
                enough = enough;
                is_kid = ap (steps.kid s d.label) d.next;
                is_rest = refl;
              },
              st,
            ),
          )

  -- out of a Fork that has no kid left
  pub to_fork : (nodes : List (Node B R)) (root : S) (e : Entry) (es : List Entry) (here : S)
      (to_come : List S) (h : Stands steps own nodes root (e ∷ es) here to_come)
      → h.2.kids ≤ e.next → Stands steps own nodes root es h.0 to_come
  to_fork nodes root e es here to_come h done =
      let none : h.2.left ≡ 0 = omega (arith, h.2.enough, h.2.next) in
      let come : to_come ≡ h.1 = h.2.is_rest ∙ ap (λ n. kids_from steps h.0 h.2.label (suc h.2.kid) n ++ h.1) none in
      rw come h.3

  -- the innermost Fork, where it was taken off the way
  pub popped : (nodes : List (Node B R)) (root : S) (way xs : List Entry) (e : Entry) (here : S)
      (to_come : List S) → way ≡ xs ++ (e ∷ [])
      → Stands steps own nodes root (reverse way) here to_come
      → Stands steps own nodes root (e ∷ reverse xs) here to_come
  popped nodes root way xs e here to_come is h = subst (λ w. Stands steps own nodes root w here to_come) (ap reverse is ∙ reverse-append xs (e ∷ [])) h

  -- the innermost Fork, where it was put on the way
  pub pushed : (nodes : List (Node B R)) (root : S) (xs way : List Entry) (e : Entry) (here : S)
      (found : Bool) (to_come : List S) → way ≡ xs ++ (e ∷ [])
      → Lands steps own nodes root (e ∷ reverse xs) here found to_come
      → Lands steps own nodes root (reverse way) here found to_come
  pushed nodes root xs way e here found to_come is h =
      subst (λ w. Lands steps own nodes root w here found to_come) (sym (ap reverse is ∙ reverse-append xs (e ∷ []))) h

  -- to the first kid of a Fork
  pub to_first : (nodes : List (Node B R)) (root : S) (place : ℕ) (way : List Entry) (here : S)
      (to_come : List S) (l : B) (n : ℕ) → own here → steps.arity here l ≡ Some n → 0 < n
      → slice_get nodes place ≡ Some (Fork l n)
      → Stands steps own nodes root (reverse way) here to_come
      → Lands steps own nodes root (reverse (way ++ (record { node = place; next = 1 } ∷ []))) (steps.kid here l 0) true (after steps (here ∷ to_come) (Fork l n))
  to_first nodes root place way here to_come l zero o a below at h = absurd (omega arith)
  to_first nodes root place way here to_come l (suc n) o a below at h =
      rw (reverse-append way (record { node = place; next = 1 } ∷ [])) (
        refl,
        refl,
        (
          here,
          to_come,
          record {
            label = l;
            kids = suc n;
            kid = 0;
            left = n;
            is_own = o;
            node = at;
            arity = a;
            next = refl;
            enough = omega arith;
            is_kid = refl;
            is_rest = refl;
          },
          h,
        ),
      )

  -- a node with no kids leaves what is to come
  pub no_kids : (here : S) (to_come : List S) (node : Node B R)
      → ((l : B) (n : ℕ) → node ≡ Fork l n → n ≡ 0) → after steps (here ∷ to_come) node ≡ to_come
  no_kids here to_come (Close r) f = refl
  no_kids here to_come (Fork l n) f = ap (λ k. kids_from steps here l 0 k ++ to_come) (f l n refl)
  no_kids here to_come Open f = refl

  -- more nodes change nothing of the way so far
  pub stands_more : (nodes ms : List (Node B R)) (root : S) (way : List Entry) (s : S)
      (to_come : List S) → Stands steps own nodes root way s to_come
      → Stands steps own (nodes ++ ms) root way s to_come
  stands_more nodes ms root [] s to_come h = h
  stands_more nodes ms root (e ∷ es) s to_come h = (
    h.0,
    h.1,
    record {
      label = h.2.label;
      kids = h.2.kids;
      kid = h.2.kid;
      left = h.2.left;
      is_own = h.2.is_own;
      node = slice_get-front nodes ms e.node (slice_get_within nodes e.node (Fork h.2.label h.2.kids) h.2.node) ∙ h.2.node;
      arity = h.2.arity;
      next = h.2.next;
      enough = h.2.enough;
      is_kid = h.2.is_kid;
      is_rest = h.2.is_rest;
    },
    stands_more nodes ms root es h.0 h.1 h.3,
  )

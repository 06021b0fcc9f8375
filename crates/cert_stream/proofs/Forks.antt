-- A way stands over a stack of Forks that grows and is cut.
use Rattle.std.proofs.Common.{◌≡◌, ℕ, zero, suc, ◌+◌, ◌≤◌, ◌<◌, Bool, true, false, List, [], ◌∷◌, ◌++◌, length, take, reverse, Some, refl, ap, sym, ◌∙◌, subst, arith, drop, length-append}
use Rattle.std.proofs.lemmas.List.{reverse-append, length-take, length-map}
use Rattle.std.specs.Prelude.{slice_get}
use Rattle.std.specs.List.{range_with_len, AllByRecursion}
use Rattle.tree_core.specs.declared.node.Node.{Node}
use Rattle.tree_core.specs.declared.node.Node.TheVariants.{Close, Fork, Open}
use Rattle.tree_core.specs.declared.walk.Entry.{Entry}
use Rattle.tree_core.specs.Steps.{Steps}
use Rattle.tree_core.specs.Checks.{NodeHolds}
use Rattle.tree_core.specs.Walk.{Stands, Lands, places_of}

pub get-push : {A : Type 0} (xs : List A) (y : A) (zs : List A) (i : ℕ) → slice_get xs i ≡ Some y
    → slice_get (xs ++ zs) i ≡ Some y
get-push [] y zs i e = absurd (cc)
get-push (x ∷ xs) y zs zero e = e
get-push (x ∷ xs) y zs (suc i) e = get-push xs y zs i e

get-cut : {A : Type 0} (xs : List A) (y : A) (n i : ℕ) → i < n → slice_get xs i ≡ Some y
    → slice_get (take n xs) i ≡ Some y
get-cut [] y n i h e = absurd (cc)
get-cut (x ∷ xs) y zero i h e = absurd (omega arith)
get-cut (x ∷ xs) y (suc n) zero h e = e
get-cut (x ∷ xs) y (suc n) (suc i) h e = get-cut xs y n i (omega arith) e

pub get-last : {A : Type 0} (xs : List A) (y : A) → slice_get (xs ++ y ∷ []) (length xs) ≡ Some y
get-last [] y = refl
get-last (x ∷ xs) y = get-last xs y

abbrev pub Below : ℕ → List Entry → Type 0
Below n es = AllByRecursion (λ e. e.node < n) es

module _ {S B R : Type 0} (steps : Steps S B R) (own : S → Type 0) (forks : List (Node B R)) (root : S) where
  pub stands_push : (es : List Entry) (node : Node B R) (here : S) (to_come : List S)
      → Stands steps own forks root es here to_come
      → Stands steps own (forks ++ node ∷ []) root es here to_come
  stands_push [] node here to_come h = h
  stands_push (e ∷ es) node here to_come h = (
    h.0,
    h.1,
    record { label = h.2.label; kids = h.2.kids; kid = h.2.kid; left = h.2.left; is_own = h.2.is_own; node = get-push forks (Fork h.2.label h.2.kids) (node ∷ []) e.node h.2.node; arity = h.2.arity; next = h.2.next; enough = h.2.enough; is_kid = h.2.is_kid; is_rest = h.2.is_rest },
    stands_push es node h.0 h.1 h.3,
  )

  pub stands_cut : (n : ℕ) (es : List Entry) (here : S) (to_come : List S) → Below n es
      → Stands steps own forks root es here to_come
      → Stands steps own (take n forks) root es here to_come
  stands_cut n [] here to_come b h = h
  stands_cut n (e ∷ es) here to_come b h = (
    h.0,
    h.1,
    record { label = h.2.label; kids = h.2.kids; kid = h.2.kid; left = h.2.left; is_own = h.2.is_own; node = get-cut forks (Fork h.2.label h.2.kids) n e.node b.0 h.2.node; arity = h.2.arity; next = h.2.next; enough = h.2.enough; is_kid = h.2.is_kid; is_rest = h.2.is_rest },
    stands_cut n es h.0 h.1 b.1 h.3,
  )

  pub lands_cut : (n : ℕ) (es : List Entry) (here : S) (found : Bool) (to_come : List S)
      → Below n es → Lands steps own forks root es here found to_come
      → Lands steps own (take n forks) root es here found to_come
  lands_cut n es here found [] b h = h
  lands_cut n es here found (s ∷ ss) b h = (h.0, h.1, stands_cut n es here ss b h.2)

below-range : (es : List Entry) (a k n : ℕ) → a + k ≤ n → places_of es ≡ range_with_len a k
    → Below n es
below-range [] a k n h e = tt
below-range (x ∷ es) a zero n h e = absurd (cc)
below-range (x ∷ es) a (suc k) n h e =
    let head : x.node ≡ a = cc in
    let tail : places_of es ≡ range_with_len (a + 1) k = ap (drop 1) e in
    (omega arith, below-range es (a + 1) k n (omega arith) tail)

below-both : (n : ℕ) (es fs : List Entry) → Below n es → Below n fs → Below n (es ++ fs)
below-both n [] fs a b = b
below-both n (e ∷ es) fs a b = (a.0, below-both n es fs a.1 b)

below-back : (n : ℕ) (es : List Entry) → Below n es → Below n (reverse es)
below-back n [] b = tt
below-back n (e ∷ es) b = subst (Below n) (sym (reverse-append (e ∷ []) es)) (below-both n (reverse es) (e ∷ []) (below-back n es b.1) (b.0, tt))

pub below-reverse : (n : ℕ) (way : List Entry) → places_of way ≡ range_with_len 0 n
    → Below n (reverse way)
below-reverse n way e = below-back n way (below-range way 0 n n (omega arith) e)

-- a node that holds where no Open does holds
pub holds_more : {S B R : Type 0} (steps : Steps S B R) (s : S) (node : Node B R)
    → NodeHolds false steps s node → NodeHolds true steps s node
holds_more steps s (Close r) h = h
holds_more steps s (Fork l n) h = h
holds_more steps s Open h = absurd (cc)

take-range : (a n k : ℕ) → k ≤ n → take k (range_with_len a n) ≡ range_with_len a k
take-range a zero zero h = refl
take-range a zero (suc k) h = absurd (omega arith)
take-range a (suc n) zero h = refl
take-range a (suc n) (suc k) h = ap (λ (r : List ℕ). a ∷ r) (take-range (a + 1) n k (omega arith))

range-last : (a n : ℕ) → range_with_len a n ++ (a + n) ∷ [] ≡ range_with_len a (suc n)
range-last a zero = let e : a + 0 ≡ a = omega arith in ap (λ (i : ℕ). i ∷ []) e
range-last a (suc n) = let e : a + suc n ≡ (a + 1) + n = omega arith in ap (λ (r : List ℕ). a ∷ r) (ap (λ (i : ℕ). range_with_len (a + 1) n ++ i ∷ []) e ∙ range-last (a + 1) n)

-- after a move the way has its places in order
pub few-places : (old new : List Entry) (depth : ℕ)
    → places_of new ≡ take (length new) (places_of old ++ depth ∷ [])
    → length new ≤ suc (length old)
few-places old new depth e =
    omega (arith, ap length e, length-map new (λ (i : Entry). i.node), length-map old (λ (i : Entry). i.node), length-take (length new) (places_of old ++ depth ∷ []), length-append (places_of old) (depth ∷ []))

pub places_are : (old new : List Entry) (depth : ℕ) → places_of old ≡ range_with_len 0 (length old)
    → depth ≡ length old
    → places_of new ≡ take (length new) (places_of old ++ depth ∷ [])
    → places_of new ≡ range_with_len 0 (length new)
places_are old new depth o d e =
    let i : 0 + length old ≡ length old = omega arith in
    let all : places_of old ++ depth ∷ [] ≡ range_with_len 0 (suc (length old)) = rw (o, d) (ap (λ (i : ℕ). range_with_len 0 (length old) ++ i ∷ []) (sym i) ∙ range-last 0 (length old)) in
    e ∙ ap (take (length new)) all ∙ take-range 0 (suc (length old)) (length new) (few-places old new depth e)

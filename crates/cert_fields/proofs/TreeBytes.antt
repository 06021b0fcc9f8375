-- Nodes are read exactly, and so are lists of nodes that list one tree.
use Rattle.std.proofs.Common.{◌≡◌, ℕ, zero, suc, ◌+◌, ◌-◌, ◌≤◌, ◌<◌, List, [], ◌∷◌, ◌++◌, length, Option, Some, None, refl, sym, ap, subst, ◌∙◌, append_assoc, arith, length-append}
use Rattle.std.proofs.Common.{Err}
use Rattle.cert_fields.specs.declared.fault.CertFault.{CertFault}
use Rattle.cert_fields.specs.declared.fault.CertFault.TheVariants.{NotACertificate, Memory}
use Rattle.std.specs.List.{flat_map, AllByRecursion}
use Rattle.std.proofs.lemmas.Option.{none-some, same_Some}
use Rattle.std.proofs.lemmas.List.{append-nil}
use Rattle.std.proofs.lemmas.List.Concat.{flat_map-cons}
use Rattle.tree_core.specs.declared.node.Node.{Node}
use Rattle.tree_core.specs.declared.node.Node.TheVariants.{Close, Fork, Open}
use Rattle.tree_core.specs.Rose.{Rose, Closed, Forked, Opened, Roses, none, more, count, preorder, preorder_all}
use Rattle.tree_core.specs.Reading.{front, behind, trees_of, tree_of, first, IsTree}
use Rattle.cert_fields.specs.Spelling.{u16_text}
use Rattle.cert_fields.specs.Reading.{◌>>=◌, Gives, u8_at, u16_at, pair_at}
use Rattle.cert_fields.specs.Exact.{Exact}
use Rattle.cert_fields.proofs.Exact.{step, u16_exact, pair_exact}
use Rattle.cert_fields.proofs.Loop.{with_front}
use Rattle.cert_fields.specs.Trees.{node_text, IsNode, tree_text, IsTreeOf}
use Rattle.cert_fields.specs.TreeReading.{node_by, node_at, kids_of, wanted_after, nodes_at, tree_at}
use Rattle.cert_fields.proofs.Tagged.{nothing_at, nothing, Always, nothing_exact, no_tag, one_tag, made_again}
use Rattle.cert_fields.proofs.Fields.{tagged_exact}

-- a node, by its label and its reason
pub node_exact : {B R : Type 0} (label : List ℕ → Option (B × List ℕ)) (FB : B → Type 0)
    (tb : B → List ℕ) (reason : List ℕ → Option (R × List ℕ)) (FR : R → Type 0) (tr : R → List ℕ)
    → Exact label FB tb → Exact reason FR tr
    → Exact (node_at label reason) (IsNode FB FR) (node_text tb tr)
unfolding node_at
node_exact {B} {R} label FB tb reason FR tr xb xr = tagged_exact (node_by label reason) (node_at label reason) (IsNode FB FR) (node_text tb tr) (λ _. refl) takes again
  where
    forked : Exact (pair_at label (λ _. u16_at)) (λ p. FB p.0 × Unit {0})
        (λ p. tb p.0 ++ u16_text p.1)
    forked = pair_exact label (λ _. u16_at) FB (λ _ _. Unit {0}) tb (λ _. u16_text) xb (λ _. u16_exact)

    takes : (tag : ℕ) (bytes : List ℕ) (v : Node B R) (rest : List ℕ)
        → node_by label reason tag bytes ≡ Some (v, rest)
        → IsNode FB FR v × (tag ∷ bytes ≡ node_text tb tr v ++ rest)
    takes tag bytes v rest =
        one_tag (IsNode FB FR) (node_text tb tr) tag bytes v rest 0 (λ _. Open) nothing_at Always nothing nothing_exact (λ _ _. (tt, refl)) _ (
        one_tag (IsNode FB FR) (node_text tb tr) tag bytes v rest 1 Close reason FR tr xr (λ _ f. (f, refl)) _ (
        one_tag (IsNode FB FR) (node_text tb tr) tag bytes v rest 2 (λ (p : B × ℕ). Fork p.0 p.1) (pair_at label (λ _. u16_at)) (λ p. FB p.0 × Unit {0}) (λ p. tb p.0 ++ u16_text p.1) forked (λ _ f. (f.0, refl)) _ (
        no_tag (IsNode FB FR) (node_text tb tr) tag bytes v rest)))

    again : (v : Node B R) (rest : List ℕ) → IsNode FB FR v
        → (u8_at (node_text tb tr v ++ rest) >>= λ tag. node_by label reason tag.0 tag.1)
        ≡ Some (v, rest)
    again Open rest f = refl
    again (Close r) rest f = made_again Close reason FR tr xr r rest f
    again (Fork l n) rest f = made_again (λ (p : B × ℕ). Fork p.0 p.1) (pair_at label (λ _. u16_at)) (λ p. FB p.0 × Unit {0}) (λ p. tb p.0 ++ u16_text p.1) forked (l, n) rest (f, tt)

mutual
  wanted-preorder : {B R : Type 0} (t : Rose B R) (w : ℕ) (ns : List (Node B R))
      → wanted_after (suc w) (preorder t ++ ns) ≡ wanted_after w ns
  wanted-preorder (Closed r) w ns = let e : w + 0 ≡ w = omega arith in ap (λ (i : ℕ). wanted_after i ns) e
  wanted-preorder (Forked l ts) w ns = wanted-preorder_all ts w ns
  wanted-preorder Opened w ns = let e : w + 0 ≡ w = omega arith in ap (λ (i : ℕ). wanted_after i ns) e

  wanted-preorder_all : {B R : Type 0} (ts : Roses B R) (w : ℕ) (ns : List (Node B R))
      → wanted_after (w + count ts) (preorder_all ts ++ ns) ≡ wanted_after w ns
  wanted-preorder_all none w ns = let e : w + 0 ≡ w = omega arith in ap (λ (i : ℕ). wanted_after i ns) e
  wanted-preorder_all {B} {R} (more t ts) w ns =
      let e : w + suc (count ts) ≡ suc (w + count ts) = omega arith in
      ap (λ (i : ℕ). wanted_after i ((preorder t ++ preorder_all ts) ++ ns)) e
      ∙ ap (wanted_after (suc (w + count ts))) (append_assoc (preorder t) (preorder_all ts) ns)
      ∙ wanted-preorder t (w + count ts) (preorder_all ts ++ ns) ∙ wanted-preorder_all ts w ns

-- a list that lists one tree uses up one
pub wanted-tree : {B R : Type 0} (ns : List (Node B R)) → IsTree ns → wanted_after 1 ns ≡ Some 0
wanted-tree ns h = ap (wanted_after 1) (sym h ∙ sym (append-nil (preorder (tree_of ns)))) ∙ wanted-preorder (tree_of ns) 0 []

count-front : {B R : Type 0} (n : ℕ) (ts : Roses B R) → n ≤ count ts → count (front n ts) ≡ n
count-front zero ts h = refl
count-front (suc n) none h = absurd (omega arith)
count-front (suc n) (more t ts) h = ap suc (count-front n ts (omega arith))

count-behind : {B R : Type 0} (n : ℕ) (ts : Roses B R) → n ≤ count ts
    → n + count (behind n ts) ≡ count ts
count-behind zero ts h = omega arith
count-behind (suc n) none h = absurd (omega arith)
count-behind (suc n) (more t ts) h = omega (arith, count-behind n ts (omega arith))

preorder-split : {B R : Type 0} (n : ℕ) (ts : Roses B R)
    → preorder_all (front n ts) ++ preorder_all (behind n ts) ≡ preorder_all ts
preorder-split zero ts = refl
preorder-split (suc n) none = refl
preorder-split (suc n) (more t ts) = append_assoc (preorder t) (preorder_all (front n ts)) (preorder_all (behind n ts)) ∙ ap (λ xs. preorder t ++ xs) (preorder-split n ts)

-- nodes that use up w trees list w trees
listed : {B R : Type 0} (ns : List (Node B R)) (w : ℕ) → wanted_after w ns ≡ Some 0
    → (preorder_all (trees_of ns) ≡ ns) × (count (trees_of ns) ≡ w)
listed [] w e = (refl, sym (same_Some w 0 e))
listed (n ∷ ns) zero e = absurd (none-some 0 e)
listed (Close r ∷ ns) (suc w) e = let h = listed ns (w + 0) e in (ap (λ xs. Close r ∷ xs) h.0, omega (arith, h.1))
listed (Open ∷ ns) (suc w) e = let h = listed ns (w + 0) e in (ap (λ xs. Open ∷ xs) h.0, omega (arith, h.1))
listed (Fork l k ∷ ns) (suc w) e =
    let h = listed ns (w + k) e in
    let enough : k ≤ count (trees_of ns) = omega (arith, h.1) in (
      ap (λ j. Fork l j ∷ (preorder_all (front k (trees_of ns)) ++ preorder_all (behind k (trees_of ns)))) (count-front k (trees_of ns) enough)
          ∙ ap (λ xs. Fork l k ∷ xs) (preorder-split k (trees_of ns) ∙ h.0),
      omega (arith, count-behind k (trees_of ns) enough, h.1),
    )

one_tree : {B R : Type 0} (ns : List (Node B R)) (ts : Roses B R) → trees_of ns ≡ ts
    → preorder_all ts ≡ ns → count ts ≡ 1 → IsTree ns
one_tree ns none e p c = absurd (omega arith)
one_tree ns (more t none) e p c = ap (λ us. preorder (first us)) e ∙ sym (append-nil (preorder t)) ∙ p
one_tree ns (more t (more u us)) e p c = absurd (omega arith)

-- a list that uses up one tree lists one
pub tree-wanted : {B R : Type 0} (ns : List (Node B R)) → wanted_after 1 ns ≡ Some 0 → IsTree ns
tree-wanted ns e = let h = listed ns 1 e in one_tree ns (trees_of ns) refl h.0 h.1

module _ {B R : Type 0} (node : List ℕ → Option (Node B R × List ℕ)) (F : Node B R → Type 0) (t : Node B R → List ℕ) (x : Exact node F t) where
  pub nodes_take : (fuel wanted : ℕ) (bytes : List ℕ) (ns : List (Node B R)) (rest : List ℕ)
      → nodes_at node fuel wanted bytes ≡ Some (ns, rest)
      → (wanted_after wanted ns ≡ Some 0) × AllByRecursion F ns × (bytes ≡ flat_map t ns ++ rest)
  nodes_take zero zero bytes ns rest e =
      subst (λ (w : List (Node B R) × List ℕ). (wanted_after 0 w.0 ≡ Some 0) × AllByRecursion F w.0 × (bytes ≡ flat_map t w.0 ++ w.1)) (same_Some ([], bytes) (ns, rest) e) (refl, tt, refl)
  nodes_take (suc fuel) zero bytes ns rest e =
      subst (λ (w : List (Node B R) × List ℕ). (wanted_after 0 w.0 ≡ Some 0) × AllByRecursion F w.0 × (bytes ≡ flat_map t w.0 ++ w.1)) (same_Some ([], bytes) (ns, rest) e) (refl, tt, refl)
  nodes_take zero (suc wanted) bytes ns rest e = absurd (none-some (ns, rest) e)
  nodes_take (suc fuel) (suc wanted) bytes ns rest e =
      let p = step (node bytes) (λ n. nodes_at node fuel (wanted + kids_of n.0) n.1 >>= λ others. Some (n.0 ∷ others.0, others.1)) (ns, rest) e in
      let q = step (nodes_at node fuel (wanted + kids_of p.0.0) p.0.1) (λ others. Some (p.0.0 ∷ others.0, others.1)) (ns, rest) p.2 in
      let h = x.takes bytes p.0.0 p.0.1 p.1 in
      let k = nodes_take fuel (wanted + kids_of p.0.0) p.0.1 q.0.0 q.0.1 q.1 in
      subst (λ (w : List (Node B R) × List ℕ). (wanted_after (suc wanted) w.0 ≡ Some 0) × AllByRecursion F w.0 × (bytes ≡ flat_map t w.0 ++ w.1)) (same_Some (p.0.0 ∷ q.0.0, q.0.1) (ns, rest) q.2)
      (k.0, (h.0, k.1), h.1 ∙ ap (λ (r : List ℕ). t p.0.0 ++ r) k.2 ∙ rw flat_map-cons (sym (append_assoc (t p.0.0) (flat_map t q.0.0) q.0.1)))

  pub nodes_again : (fuel wanted : ℕ) (ns : List (Node B R)) (rest : List ℕ)
      → wanted_after wanted ns ≡ Some 0 → AllByRecursion F ns → length ns ≤ fuel
      → nodes_at node fuel wanted (flat_map t ns ++ rest) ≡ Some (ns, rest)
  nodes_again zero zero [] rest e f l = refl
  nodes_again (suc fuel) zero [] rest e f l = refl
  nodes_again zero (suc wanted) [] rest e f l = absurd (let z : suc wanted ≡ 0 = same_Some (suc wanted) 0 e in omega arith)
  nodes_again (suc fuel) (suc wanted) [] rest e f l = absurd (let z : suc wanted ≡ 0 = same_Some (suc wanted) 0 e in omega arith)
  nodes_again fuel zero (n ∷ ns) rest e f l = absurd (none-some 0 e)
  nodes_again zero (suc wanted) (n ∷ ns) rest e f l = absurd (omega arith)
  nodes_again (suc fuel) (suc wanted) (n ∷ ns) rest e f l =
      ap (nodes_at node (suc fuel) (suc wanted)) (ap (λ (r : List ℕ). r ++ rest) (flat_map-cons t n ns) ∙ append_assoc (t n) (flat_map t ns) rest)
      ∙ rw (x.again n (flat_map t ns ++ rest) f.0, nodes_again fuel (wanted + kids_of n) ns rest e f.1 (omega arith)) refl

  pub few_nodes : ((n : Node B R) → 1 ≤ length (t n)) → (ns : List (Node B R))
      → length ns ≤ length (flat_map t ns)
  few_nodes h [] = omega arith
  few_nodes h (n ∷ ns) = rw flat_map-cons (omega (arith, length-append (t n) (flat_map t ns), h n, few_nodes h ns))

pub some_bytes : {B R : Type 0} (tb : B → List ℕ) (tr : R → List ℕ) (n : Node B R)
    → 1 ≤ length (node_text tb tr n)
some_bytes tb tr Open = omega arith
some_bytes tb tr (Close r) = omega arith
some_bytes tb tr (Fork l n) = omega arith

-- a tree, by the readers of labels and reasons
pub tree_exact : {B R : Type 0} (label : List ℕ → Option (B × List ℕ)) (FB : B → Type 0)
    (tb : B → List ℕ) (reason : List ℕ → Option (R × List ℕ)) (FR : R → Type 0) (tr : R → List ℕ)
    → Exact label FB tb → Exact reason FR tr
    → Exact (tree_at label reason) (IsTreeOf FB FR) (tree_text tb tr)
unfolding tree_at
tree_exact {B} {R} label FB tb reason FR tr xb xr = record {
  takes = λ bytes v rest e.
      let h = nodes_take (node_at label reason) (IsNode FB FR) (node_text tb tr) one (length bytes) 1 bytes v rest e in
      (record { tree = tree-wanted v h.0; each = h.1 }, h.2);
  again = λ v rest f.
      nodes_again (node_at label reason) (IsNode FB FR) (node_text tb tr) one (length (flat_map (node_text tb tr) v ++ rest)) 1 v rest (wanted-tree v f.tree) f.each
      (omega (arith, length-append (flat_map (node_text tb tr) v) rest, few_nodes (node_at label reason) (IsNode FB FR) (node_text tb tr) one (some_bytes tb tr) v));
}
  where
    one : Exact (node_at label reason) (IsNode FB FR) (node_text tb tr)
    one = node_exact label FB tb reason FR tr xb xr

-- each node takes a byte
pub node_shorter : {B R : Type 0} (label : List ℕ → Option (B × List ℕ)) (FB : B → Type 0)
    (tb : B → List ℕ) (reason : List ℕ → Option (R × List ℕ)) (FR : R → Type 0) (tr : R → List ℕ)
    → Exact label FB tb → Exact reason FR tr → (bytes : List ℕ) (n : Node B R) (rest : List ℕ)
    → node_at label reason bytes ≡ Some (n, rest) → length rest < length bytes
node_shorter label FB tb reason FR tr xb xr bytes n rest e =
    let h = (node_exact label FB tb reason FR tr xb xr).takes bytes n rest e in
    omega (arith, ap length h.1, length-append (node_text tb tr n) rest, some_bytes tb tr n)

regroup : {A : Type 0} (front : List A) (n : A) (read : Option (List A × List ℕ))
    → with_front front (read >>= λ x. Some (n ∷ x.0, x.1)) ≡ with_front (front ++ n ∷ []) read
regroup {A} front n (Some x) = ap (λ (ns : List A). Some (ns, x.1)) (simp append_assoc)
regroup front n None = refl

module _ {B R : Type 0} (node : List ℕ → Option (Node B R × List ℕ)) (front : List (Node B R)) (total : Option (List (Node B R) × List ℕ)) where
  pub reads_on : (fuel wanted : ℕ) (bytes : List ℕ) (n : Node B R) (after : List ℕ) → 0 < wanted
      → node bytes ≡ Some (n, after) → length bytes ≤ fuel → length after < length bytes
      → with_front front (nodes_at node fuel wanted bytes) ≡ total
      → (rest_fuel : ℕ) × (length after ≤ rest_fuel)
      × (with_front (front ++ n ∷ []) (nodes_at node rest_fuel (wanted - 1 + kids_of n) after)
      ≡ total)
  reads_on zero wanted bytes n after w e f s h = absurd (omega arith)
  reads_on (suc fuel) zero bytes n after w e f s h = absurd (omega arith)
  reads_on (suc fuel) (suc wanted) bytes n after w e f s h =
      let one : with_front front (nodes_at node (suc fuel) (suc wanted) bytes) ≡ with_front (front ++ n ∷ []) (nodes_at node fuel (wanted + kids_of n) after) = rw e (regroup front n (nodes_at node fuel (wanted + kids_of n) after)) in
      let i : suc wanted - 1 ≡ wanted = omega arith in
      (fuel, omega arith, rw i (sym one ∙ h))

  pub reads_none : (fuel wanted : ℕ) (bytes : List ℕ) → 0 < wanted → node bytes ≡ None
      → with_front front (nodes_at node fuel wanted bytes) ≡ total → total ≡ None
  reads_none fuel zero bytes w e h = absurd (omega arith)
  reads_none zero (suc wanted) bytes w e h = sym h
  reads_none (suc fuel) (suc wanted) bytes w e h = let one : with_front front (nodes_at node (suc fuel) (suc wanted) bytes) ≡ None = rw e refl in sym h ∙ one

  pub reads_fault : {X Y : Type 0} (view : X → Node B R × List ℕ)
      (views : Y → List (Node B R) × List ℕ) (e : CertFault) (fuel wanted : ℕ) (bytes : List ℕ)
      → 0 < wanted → Gives view (Err e) (node bytes)
      → with_front front (nodes_at node fuel wanted bytes) ≡ total → Gives views (Err e) total
  reads_fault view views NotACertificate fuel wanted bytes w e h = reads_none fuel wanted bytes w e h
  reads_fault view views Memory fuel wanted bytes w e h = tt

  pub reads_all : (fuel wanted : ℕ) (bytes : List ℕ) → wanted ≡ 0
      → with_front front (nodes_at node fuel wanted bytes) ≡ total → total ≡ Some (front, bytes)
  reads_all zero zero bytes w h = sym h ∙ ap (λ (ns : List (Node B R)). Some (ns, bytes)) (append-nil front)
  reads_all (suc fuel) zero bytes w h = sym h ∙ ap (λ (ns : List (Node B R)). Some (ns, bytes)) (append-nil front)
  reads_all fuel (suc wanted) bytes w h = absurd (omega arith)

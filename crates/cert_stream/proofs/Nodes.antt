-- Nodes and trees, read one node at a time.
use Rattle.std.proofs.Common.{◌≡◌, ℕ, zero, suc, ◌+◌, ◌-◌, ◌<◌, ◌≤◌, List, [], ◌∷◌, ◌++◌, length, Option, Some, None, refl, sym, ap, ◌∙◌, append_assoc, arith}
use Rattle.std.proofs.lemmas.List.{append-nil}
use Rattle.tree_core.specs.declared.node.Node.{Node}
use Rattle.cert_fields.specs.Reading.{◌>>=◌, Reader, u16_at}
use Rattle.cert_fields.specs.Spelling.{u16_text}
use Rattle.cert_fields.specs.Trees.{AnyLabel, AnyImage, AnySkipped, IsReason, IsNode, label_text, reason_text, skipped_text, node_text}
use Rattle.cert_fields.specs.TreeReading.{nodes_at, kids_of, wanted_after, label_at, reason_at, skipped_at}
use Rattle.cert_fields.proofs.Exact.{u16_exact}
use Rattle.cert_fields.proofs.Fields.{label_exact, reason_exact, skipped_exact}
use Rattle.cert_fields.proofs.TreeBytes.{node_exact, node_shorter}
use Rattle.std.proofs.lemmas.Option.{none-some, same_Some}
use Rattle.cert_stream.specs.Left.{Parts, whole_at, trees_at, deck_node_at, evade_node_at}
use Rattle.cert_stream.specs.Stands.{Reads}
use Rattle.cert_stream.proofs.Settled.{Settles, settles, reads_so, reads_field, none_held, none_more}
use Rattle.cert_stream.proofs.Sizes.{deck_node_size, evade_node_size}

pub deck_node : Settles 1 516 deck_node_at
deck_node = settles deck_node_at (IsNode AnyLabel IsReason) (node_text label_text reason_text) 1 516
    (node_exact label_at AnyLabel label_text reason_at IsReason reason_text label_exact reason_exact) deck_node_size

pub evade_node : Settles 1 516 evade_node_at
evade_node = settles evade_node_at (IsNode AnyImage AnySkipped) (node_text u16_text skipped_text) 1 516
    (node_exact u16_at AnyImage u16_text skipped_at AnySkipped skipped_text u16_exact skipped_exact) evade_node_size

-- each node takes a byte
abbrev pub Shortens : {B R : Type 0} → Reader (Node B R) → Type 0
Shortens {B} {R} node = (bytes : List ℕ) (n : Node B R) (rest : List ℕ) → node bytes ≡ Some (n, rest) → length rest < length bytes

pub deck_node_shorter : Shortens deck_node_at
deck_node_shorter = node_shorter label_at AnyLabel label_text reason_at IsReason reason_text label_exact reason_exact

pub evade_node_shorter : Shortens evade_node_at
evade_node_shorter = node_shorter u16_at AnyImage u16_text skipped_at AnySkipped skipped_text u16_exact skipped_exact

-- one node more is wanted so
pub wanted_more : {B R : Type 0} (ns : List (Node B R)) (b w : ℕ) (n : Node B R)
    → wanted_after b ns ≡ Some w → 0 < w → wanted_after b (ns ++ n ∷ []) ≡ Some (w - 1 + kids_of n)
wanted_more [] zero w n e h = absurd (let z : 0 ≡ w = same_Some 0 w e in omega arith)
wanted_more [] (suc b) w n e h = let z : suc b ≡ w = same_Some (suc b) w e in ap (λ (i : ℕ). Some (i + kids_of n)) (omega arith)
wanted_more (m ∷ ns) zero w n e h = absurd (none-some w e)
wanted_more (m ∷ ns) (suc b) w n e h = wanted_more ns (b + kids_of m) w n e h

module _ {B R : Type 0} (node : Reader (Node B R)) (short : Shortens node) where
  none_empty : (o : Option (Node B R × List ℕ)) → node [] ≡ o → o ≡ None
  none_empty None e = refl
  none_empty (Some p) e = absurd (omega (arith, short [] p.0 p.1 e))

  -- one node, and the others behind it
  abbrev consed : Node B R → Option (List (Node B R) × List ℕ) → Option (List (Node B R) × List ℕ)
  consed n o = o >>= λ t. Some (n ∷ t.0, t.1)

  abbrev behind : (Node B R × List ℕ → Option (List (Node B R) × List ℕ))
      → Option (Node B R × List ℕ) → Option (List (Node B R) × List ℕ)
  behind others o = o >>= λ n. consed n.0 (others n)

  fuel_by : (f g w : ℕ) (bytes : List ℕ)
      → ((p : Node B R × List ℕ) → node bytes ≡ Some p
      → nodes_at node f (w + kids_of p.0) p.1 ≡ nodes_at node g (w + kids_of p.0) p.1)
      → (o : Option (Node B R × List ℕ)) → node bytes ≡ o
      → behind (λ n. nodes_at node f (w + kids_of n.0) n.1) o
      ≡ behind (λ n. nodes_at node g (w + kids_of n.0) n.1) o
  fuel_by f g w bytes same None e = refl
  fuel_by f g w bytes same (Some p) e = ap (consed p.0) (same p e)

  -- it is the same with any fuel that is enough
  fuel_same : (f g w : ℕ) (bytes : List ℕ) → length bytes ≤ f → length bytes ≤ g
      → nodes_at node f w bytes ≡ nodes_at node g w bytes
  fuel_same zero zero w bytes a b = refl
  fuel_same zero (suc g) zero bytes a b = refl
  fuel_same (suc f) zero zero bytes a b = refl
  fuel_same (suc f) (suc g) zero bytes a b = refl
  fuel_same zero (suc g) (suc w) [] a b = rw (none_empty (node []) refl) refl
  fuel_same zero (suc g) (suc w) (x ∷ bytes) a b = absurd (omega (arith, a))
  fuel_same (suc f) zero (suc w) [] a b = rw (none_empty (node []) refl) refl
  fuel_same (suc f) zero (suc w) (x ∷ bytes) a b = absurd (omega (arith, b))
  fuel_same (suc f) (suc g) (suc w) bytes a b =
      fuel_by f g w bytes (λ p e. let less = short bytes p.0 p.1 e in fuel_same f g (w + kids_of p.0) p.1 (omega (arith, less, a)) (omega (arith, less, b))) (node bytes) refl

  pub one_node : (w : ℕ) (bytes : List ℕ) → 0 < w
      → trees_at node w bytes ≡ behind (λ n. trees_at node (w - 1 + kids_of n.0) n.1) (node bytes)
  one_node zero bytes h = absurd (omega arith)
  one_node (suc w) [] h = rw (none_empty (node []) refl) refl
  one_node (suc w) (x ∷ bytes) h = by (node (x ∷ bytes)) refl
    where
      by : (o : Option (Node B R × List ℕ)) → node (x ∷ bytes) ≡ o
          → behind (λ n. nodes_at node (length bytes) (w + kids_of n.0) n.1) o
          ≡ behind (λ n. trees_at node (suc w - 1 + kids_of n.0) n.1) o
      by None e = refl
      by (Some p) e =
          let less = short (x ∷ bytes) p.0 p.1 e in
          let i : suc w - 1 ≡ w = omega arith in
          ap (consed p.0)
          (rw i (fuel_same (length bytes) (length p.1) (w + kids_of p.0) p.1 (omega (arith, less)) (omega arith)))

  no_node : (bytes : List ℕ) → trees_at node 0 bytes ≡ Some ([], bytes)
  no_node [] = refl
  no_node (x ∷ bytes) = refl

  module _ (next : List (Node B R) → List ℕ → Option Parts) where
    -- the rest of some trees, behind these nodes, and what follows them
    abbrev pub left_of : List (Node B R) → ℕ → List ℕ → Option Parts
    left_of nodes w bytes = trees_at node w bytes >>= λ t. next (nodes ++ t.0) t.1

    abbrev pub one_then : List (Node B R) → ℕ → List ℕ → Option Parts
    one_then nodes w bytes = node bytes >>= λ n. left_of (nodes ++ n.0 ∷ []) (w - 1 + kids_of n.0) n.1

    pub node_left : (nodes : List (Node B R)) (w : ℕ) (bytes : List ℕ) → 0 < w
        → left_of nodes w bytes
        ≡ (node bytes >>= λ n. left_of (nodes ++ n.0 ∷ []) (w - 1 + kids_of n.0) n.1)
    node_left nodes w bytes h = ap (λ (t : Option (List (Node B R) × List ℕ)). t >>= λ t. next (nodes ++ t.0) t.1) (one_node w bytes h) ∙ by (node bytes)
      where
        each : (n : Node B R) (t : Option (List (Node B R) × List ℕ))
            → (consed n t >>= λ t. next (nodes ++ t.0) t.1)
            ≡ (t >>= λ t. next ((nodes ++ n ∷ []) ++ t.0) t.1)
        each n None = refl
        each n (Some t) = ap (λ (ns : List (Node B R)). next ns t.1) (sym (append_assoc nodes (n ∷ []) t.0))

        by : (o : Option (Node B R × List ℕ))
            → (behind (λ n. trees_at node (w - 1 + kids_of n.0) n.1) o >>= λ t. next (nodes ++ t.0)
            t.1) ≡ (o >>= λ n. left_of (nodes ++ n.0 ∷ []) (w - 1 + kids_of n.0) n.1)
        by None = refl
        by (Some n) = each n.0 (trees_at node (w - 1 + kids_of n.0) n.1)

    pub none_left : (nodes : List (Node B R)) (bytes : List ℕ)
        → left_of nodes 0 bytes ≡ next nodes bytes
    none_left nodes bytes = ap (λ (t : Option (List (Node B R) × List ℕ)). t >>= λ t. next (nodes ++ t.0) t.1) (no_node bytes) ∙ ap (λ (ns : List (Node B R)). next ns bytes) (append-nil nodes)

    -- one node more was read
    pub tree_on : {least most : ℕ} → Settles least most node
        → (all held rest : List ℕ) (nodes : List (Node B R)) (wanted later : ℕ) (n : Node B R)
        → 0 < wanted → node held ≡ Some (n, rest)
        → later ≡ wanted - 1 + kids_of n → Reads all held (left_of nodes wanted)
        → Reads all rest (left_of (nodes ++ n ∷ []) later)
    tree_on s all held rest nodes wanted later n some e is reads =
        let r : Reads all held (one_then nodes wanted) = reads_so all held (left_of nodes wanted) (one_then nodes wanted) (λ bytes. node_left nodes wanted bytes some) reads in
        rw is (reads_field node (λ m. left_of (nodes ++ m ∷ []) (wanted - 1 + kids_of m)) all held r n rest s e)

    -- the last one was
    pub tree_done : (all held : List ℕ) (nodes : List (Node B R)) (wanted : ℕ) → wanted ≡ 0
        → Reads all held (left_of nodes wanted) → Reads all held (next nodes)
    tree_done all held nodes zero e reads = reads_so all held (left_of nodes 0) (next nodes) (none_left nodes) reads
    tree_done all held nodes (suc w) e reads = absurd (omega (arith, e))

    -- none was
    pub tree_stops : {least most : ℕ} → Settles least most node
        → (all held : List ℕ) (nodes : List (Node B R)) (wanted : ℕ) → 0 < wanted → node held ≡ None
        → Reads all held (left_of nodes wanted)
        → (whole_at all ≡ None) × (most ≤ length held → (more : List ℕ)
        → whole_at (all ++ more) ≡ None)
    tree_stops s all held nodes wanted some e reads =
        let r : Reads all held (one_then nodes wanted) = reads_so all held (left_of nodes wanted) (one_then nodes wanted) (λ bytes. node_left nodes wanted bytes some) reads in
        let later = λ (m : Node B R). left_of (nodes ++ m ∷ []) (wanted - 1 + kids_of m) in
        (none_held node later all held r e, λ long more. none_more node later all held r s long e more)

-- What holds at each place of a list of nodes, as the list grows.
use Rattle.std.proofs.Common.{◌≡◌, ℕ, suc, ◌<◌, ◌≤◌, Some, List, [], ◌∷◌, ◌++◌, length, take, ap, sym, ◌∙◌, arith, length-append, inl, inr}
use Rattle.std.specs.List.{slice_get}
use Rattle.std.proofs.Math.Seq.{take-append_seam}
use Rattle.std.proofs.lemmas.List.{take-append-le}
use Rattle.std.proofs.lemmas.Option.{slice_get_within}
use Rattle.std.proofs.lemmas.Bool.{cases_lt}
use Rattle.tree_core.specs.declared.node.Node.{Node}
use Rattle.tree_core.specs.Steps.{Steps}
use Rattle.tree_core.specs.Places.{ahead, state_at, EachPlace}
use Rattle.tree_core.proofs.Lists.{slice_get-last, slice_get-front, take-next}

module _ {S B R : Type 0} (steps : Steps S B R) where
  -- appending a node changes nothing at the earlier places
  pub each_snoc : (s : S) (ns : List (Node B R)) (n : Node B R) (t : S)
      (P : List (Node B R) → S → Node B R → Type 0)
      → EachPlace steps s ns P → slice_get (ahead steps (s ∷ []) ns) 0 ≡ Some t → P ns t n
      → EachPlace steps s (ns ++ (n ∷ [])) P
  each_snoc s ns n t P h at p i u m get state = elim (cases_lt i (length ns)) [ inl below ↦ early below | inr above ↦ late above ]
    where
      early : i < length ns → P (take i (ns ++ (n ∷ []))) u m
      early below =
          let e : take i (ns ++ (n ∷ [])) ≡ take i ns = take-append-le i ns (n ∷ []) (omega arith) in
          rw e (h i u m (sym (slice_get-front ns (n ∷ []) i below) ∙ get) (ap (λ ms. slice_get (ahead steps (s ∷ []) ms) 0) (sym e) ∙ state))

      late : length ns ≤ i → P (take i (ns ++ (n ∷ []))) u m
      late above =
          let within : i < length (ns ++ (n ∷ [])) = slice_get_within (ns ++ (n ∷ [])) i m get in
          let here : i ≡ length ns = omega (arith, length-append ns (n ∷ [])) in
          let e : take i (ns ++ (n ∷ [])) ≡ ns = ap (λ j. take j (ns ++ (n ∷ []))) here ∙ take-append_seam ns (n ∷ []) in
          let get_last : Some n ≡ Some m = sym (slice_get-last ns n) ∙ (ap (slice_get (ns ++ (n ∷ []))) (sym here) ∙ get) in
          let state_last : Some t ≡ Some u = sym at ∙ (ap (λ ms. slice_get (ahead steps (s ∷ []) ms) 0) (sym e) ∙ state) in
          let nm : n ≡ m = cc in
          let tu : t ≡ u = cc in
          rw (e, ← nm, ← tu) p

  -- a list with no nodes has no place
  pub each_nil : (s : S) (P : List (Node B R) → S → Node B R → Type 0) → EachPlace steps s [] P
  each_nil s P i u m get state = absurd (cc)

  -- one more of the nodes of a list
  pub each_next : (s : S) (ns : List (Node B R)) (i : ℕ) (n : Node B R) (t : S)
      (P : List (Node B R) → S → Node B R → Type 0)
      → EachPlace steps s (take i ns) P → slice_get ns i ≡ Some n → state_at steps s ns i ≡ Some t
      → P (take i ns) t n → EachPlace steps s (take (suc i) ns) P
  each_next s ns i n t P h get at p = rw (take-next ns i n get) (each_snoc s (take i ns) n t P h at p)

-- Open nodes behind others.
use Rattle.std.proofs.Common.{◌≡◌, ℕ, zero, suc, ◌+◌, ◌<◌, ◌≤◌, Bool, Some, List, [], ◌∷◌, ◌++◌, length, take, refl, ap, sym, ◌∙◌, arith, append_assoc, length-append, count_by, cond, inl, inr}
use Rattle.std.specs.List.{slice_get}
use Rattle.std.proofs.lemmas.List.{take-append-le, append-nil}
use Rattle.std.proofs.lemmas.Option.{slice_get_within}
use Rattle.std.proofs.lemmas.Bool.{cases_lt}
use Rattle.std.proofs.lemmas.List.Sums.{sum_by-append}
use Rattle.tree_core.specs.declared.node.Node.{Node}
use Rattle.tree_core.specs.declared.node.Node.TheVariants.{Open}
use Rattle.tree_core.specs.Nodes.{is_pick}
use Rattle.tree_core.specs.Steps.{Steps}
use Rattle.tree_core.specs.Places.{ahead, EachPlace}
use Rattle.tree_core.proofs.Lists.{slice_get-front, slice_get-last}
use Rattle.tree_search.specs.Turn.{opens}
use Rattle.tree_search.specs.Memory.{remembered}
use Rattle.tree_search.specs.declared.pick.Pick.{Pick}

-- an element behind a list
pub slice_get-behind : {X : Type 0} (xs ys : List X) (i : ℕ)
    → slice_get (xs ++ ys) (length xs + i) ≡ slice_get ys i
slice_get-behind [] ys i = let e : 0 + i ≡ i = omega arith in ap (slice_get ys) e
slice_get-behind (x ∷ xs) ys i =
    let e : suc (length xs) + i ≡ suc (length xs + i) = omega arith in
    ap (slice_get (x ∷ (xs ++ ys))) e ∙ slice_get-behind xs ys i

-- each of them is open
pub open_in : {B R : Type 0} (k i : ℕ) (n : Node B R) → slice_get (opens k) i ≡ Some n → n ≡ Open
open_in zero i n e = absurd (cc)
open_in (suc k) zero n e = cc
open_in (suc k) (suc i) n e = open_in k i n e

opens-last : {B R : Type 0} (n : ℕ) → opens {B = B} {R = R} n ++ (Open ∷ []) ≡ opens (suc n)
opens-last zero = refl
opens-last (suc n) = ap (λ xs. Open ∷ xs) (opens-last n)

-- one more open node behind
pub more_open : {B R : Type 0} (old new : List (Node B R)) (n : ℕ) → new ≡ old ++ opens n
    → new ++ (Open ∷ []) ≡ old ++ opens (suc n)
more_open old new n e = ap (λ xs. xs ++ (Open ∷ [])) e ∙ append_assoc old (opens n) (Open ∷ []) ∙ ap (λ xs. old ++ xs) (opens-last n)

pub count-append : {X : Type 0} (p : X → Bool) (xs ys : List X)
    → count_by p (xs ++ ys) ≡ count_by p xs + count_by p ys
count-append p xs ys = sum_by-append (λ x. cond (p x) 1 0) xs ys

count-opens : (B R : Type 0) (k : ℕ) → count_by is_pick (opens {B = B} {R = R} k) ≡ 0
count-opens B R zero = refl
count-opens B R (suc k) =
    let one : List (Node B R) = Open ∷ [] in
    let e : count_by is_pick (opens {B = B} {R = R} (suc k)) ≡ 0 + count_by is_pick (opens {B = B} {R = R} k) = count-append is_pick one (opens {B = B} {R = R} k) in
    omega (arith, e, count-opens B R k)

-- they count for nothing
pub count-opened : {B R : Type 0} (ns : List (Node B R)) (k : ℕ)
    → count_by is_pick (ns ++ opens k) ≡ count_by is_pick ns
count-opened {B} {R} ns k = count-append is_pick ns (opens k) ∙ omega (arith, count-opens B R k)

-- they change no memory
pub remembered-opened : {B R P W : Type 0} (rule : List R → Pick B R P W → List R) (m : List R)
    (ns : List (Node B R)) (k : ℕ)
    → remembered rule m (ns ++ opens k) ≡ remembered rule m ns
remembered-opened rule m [] zero = refl
remembered-opened rule m [] (suc k) = remembered-opened rule m [] k
remembered-opened rule m (n ∷ ns) k = remembered-opened rule _ ns k

module _ {S B R : Type 0} (steps : Steps S B R) where
  each_open : (s : S) (ns : List (Node B R)) (P : List (Node B R) → S → Node B R → Type 0)
      → ((before : List (Node B R)) (t : S) → P before t Open)
      → EachPlace steps s ns P → EachPlace steps s (ns ++ (Open ∷ [])) P
  each_open s ns P here h i u m get state = elim (cases_lt i (length ns)) [ inl below ↦ early below | inr above ↦ late above ]
    where
      early : i < length ns → P (take i (ns ++ (Open ∷ []))) u m
      early below =
          let e : take i (ns ++ (Open ∷ [])) ≡ take i ns = take-append-le i ns (Open ∷ []) (omega arith) in
          rw e (h i u m (sym (slice_get-front ns (Open ∷ []) i below) ∙ get) (ap (λ ms. slice_get (ahead steps (s ∷ []) ms) 0) (sym e) ∙ state))

      late : length ns ≤ i → P (take i (ns ++ (Open ∷ []))) u m
      late above =
          let within : i < length (ns ++ (Open ∷ [])) = slice_get_within (ns ++ (Open ∷ [])) i m get in
          let last : List (Node B R) = Open ∷ [] in
          let at : i ≡ length ns = omega (arith, length-append ns last) in
          let get_last : Some Open ≡ Some m = sym (slice_get-last ns Open) ∙ (ap (slice_get (ns ++ (Open ∷ []))) (sym at) ∙ get) in
          let same : Open ≡ m = cc in
          rw (← same) (here (take i (ns ++ (Open ∷ []))) u)

  -- what holds at each place, and of every open node, holds at each place with open nodes behind
  pub each_opens : (k : ℕ) (s : S) (ns : List (Node B R))
      (P : List (Node B R) → S → Node B R → Type 0)
      → ((before : List (Node B R)) (t : S) → P before t Open)
      → EachPlace steps s ns P → EachPlace steps s (ns ++ opens k) P
  each_opens zero s ns P here h = rw (append-nil ns) h
  each_opens (suc k) s ns P here h = rw (← append_assoc ns (Open ∷ []) (opens k)) (each_opens k s (ns ++ (Open ∷ [])) P here (each_open s ns P here h))

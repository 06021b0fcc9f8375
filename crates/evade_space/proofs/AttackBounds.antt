-- How many Close and Fork nodes an open tree of an attack has at most.
use Rattle.std.proofs.Common.{◌≡◌, ℕ, zero, suc, ◌+◌, ◌-◌, ◌*◌, ◌<◌, ◌≤◌, ◌||◌, Bool, true, false, not, cond, Option, Some, None, is_some, List, [], ◌∷◌, length, get_or, count_by, refl, ap, subst, ◌∙◌, arith, inl, inr}
use Rattle.std.specs.Prelude.{◌==◌}
use Rattle.std.specs.List.{range_with_len}
use Rattle.std.proofs.lemmas.Bool.{eqb-true, eq-eqb, and_parts, cases_eq}
use Rattle.std.proofs.lemmas.List.{length-append, length-replicate}
use Rattle.std.proofs.lemmas.List.Filters.{length-filter_both}
use Rattle.std.proofs.lemmas.List.FromFn.{length-range_with_len}
use Rattle.std.proofs.lemmas.List.Sums.{sum_by-append, sum_by-cons, length-filter}
use Rattle.std.proofs.Math.Nat.{mul-le-mul_left, mul-le-mul_right}
use Rattle.lat_base.specs.Shape.{target_count}
use Rattle.lemmas.proofs.Counting.{count_le}
use Rattle.lemmas.proofs.Ranges.{count_more}
use Rattle.evade_space.specs.declared.skipped.Skipped.{Skipped}
use Rattle.evade_space.specs.Dead.{is_dead}
use Rattle.evade_space.specs.Kids.{can_get, kids_of}
use Rattle.evade_space.specs.PartialMisassignment.{PartialMisassignment, IsPartialMisassignment}
use Rattle.evade_space.specs.Sought.{Sought, start}
use Rattle.evade_space.specs.Sources.{source_at, is_used, with_source}
use Rattle.evade_space.specs.Steps.{IsEvadeState, evade_steps}
use Rattle.evade_space.proofs.Known.{with_long}
use Rattle.evade_space.proofs.Laws.{allowed, kid_is_own}
use Rattle.tree_core.specs.declared.node.Node.{Node}
use Rattle.tree_core.specs.declared.node.Node.TheVariants.{Fork}
use Rattle.tree_core.specs.Checks.{ChecksWith, KidsCheckWith}
use Rattle.tree_core.specs.Nodes.{is_pick}
use Rattle.tree_core.specs.Reading.{tree_of}
use Rattle.tree_core.specs.Rose.{Rose, Closed, Forked, Opened, Roses, none, more, count, preorder, preorder_all}
use Rattle.tree_search.specs.Outcome.{IsOpenTree}
use Rattle.evade_space.specs.Trees.{factorial}

-- how many nodes there are at most where n images have no source
abbrev most_nodes : ℕ → ℕ
most_nodes zero = 1
most_nodes (suc n) = 1 + suc n * most_nodes n

some_node : (n : ℕ) → 1 ≤ most_nodes n
some_node zero = omega arith
some_node (suc n) = omega arith

most_factorial : (n : ℕ) → most_nodes n + 1 ≤ 3 * factorial n
most_factorial zero = omega arith
most_factorial (suc zero) = omega arith
most_factorial (suc (suc n)) =
    let before = most_factorial (suc n) in
    let times : suc (suc n) * (most_nodes (suc n) + 1) ≤ suc (suc n) * (3 * factorial (suc n)) = mul-le-mul_left (suc (suc n)) before in
    larger (suc (suc n)) (most_nodes (suc n)) (factorial (suc n)) times (omega arith)
  where
    larger : (m a f : ℕ) → m * (a + 1) ≤ m * (3 * f) → 2 ≤ m → 1 + m * a + 1 ≤ 3 * (m * f)
    larger m a f h two = omega (arith, h, two)

-- a target that no image has
pub not_used : (y : ℕ) (xs : List (Option ℕ)) → ((w : ℕ) → source_at xs w ≡ Some y → ⊥)
    → is_used xs y ≡ false
not_used y [] h = refl
not_used y (None ∷ xs) h = not_used y xs (λ w e. h (suc w) e)
not_used y (Some x ∷ xs) h = by_test (x == y) refl (not_used y xs (λ w e. h (suc w) e))
  where
    by_test : (b : Bool) → (x == y) ≡ b → is_used xs y ≡ false → is_used (Some x ∷ xs) y ≡ false
    by_test true e rest = absurd (h 0 (ap (λ (z : ℕ). Some z) (eqb-true x y e)))
    by_test false e rest = ap (λ (b : Bool). b || is_used xs y) e ∙ rest

or_first : (a b : Bool) → a ≡ true → (a || b) ≡ true
or_first a b e = ap (λ (x : Bool). x || b) e

or_second : (a b : Bool) → b ≡ true → (a || b) ≡ true
or_second true b e = refl
or_second false b e = e

-- where one number of a range passes a second test and not the first, and none passes the first
-- alone
one_passes_more : (p q : ℕ → Bool) (n y : ℕ) → y < n → ((t : ℕ) → p t ≡ true → q t ≡ true)
    → p y ≡ false → q y ≡ true
    → count_by p (range_with_len 0 n) + 1 ≤ count_by q (range_with_len 0 n)
one_passes_more p q zero y lt h no_p yes_q = absurd (omega arith)
one_passes_more p q (suc n) y lt h no_p yes_q =
    let next : suc n ≡ n + 1 = omega arith in
    let a = ap (λ (k : ℕ). count_by p (range_with_len 0 k)) next ∙ count_more p n in
    let b = ap (λ (k : ℕ). count_by q (range_with_len 0 k)) next ∙ count_more q n in
    elim (cases_eq n y) [
      | inl same ↦
          let at_p : ◌≡◌ {A = ℕ} (cond (p n) 1 0) 0 = ap {B = ℕ} (λ (x : Bool). cond x 1 0) (ap p same ∙ no_p) in
          let at_q : ◌≡◌ {A = ℕ} (cond (q n) 1 0) 1 = ap {B = ℕ} (λ (x : Bool). cond x 1 0) (ap q same ∙ yes_q) in
          omega (arith, a, b, at_p, at_q, count_le p q (range_with_len 0 n) h)
      | inr other ↦ omega (arith, a, b, one_le (p n) (q n) (h n), one_passes_more p q n y (omega (arith, other)) h no_p yes_q)
    ]
  where
    one_le : (a b : Bool) → (a ≡ true → b ≡ true) → cond {A = ℕ} a 1 0 ≤ cond b 1 0
    one_le false b k = omega arith
    one_le true true k = omega arith
    one_le true false k = absurd (cc (k refl))

-- as many targets are used as images have a source
used_count : (xs : List (Option ℕ)) (n : ℕ) → ((u t : ℕ) → source_at xs u ≡ Some t → t < n)
    → ((u w t : ℕ) → source_at xs u ≡ Some t → source_at xs w ≡ Some t → u ≡ w)
    → count_by is_some xs ≤ count_by (is_used xs) (range_with_len 0 n)
used_count [] n within once = omega arith
used_count (None ∷ xs) n within once =
    let rest = used_count xs n (λ u t e. within (suc u) t e) (λ u w t a b. let e = once (suc u) (suc w) t a b in omega (arith, e)) in
    omega (arith, rest, sum_by-cons (λ (o : Option ℕ). cond (is_some o) 1 0) None xs)
used_count (Some y ∷ xs) n within once =
    let rest = used_count xs n (λ u t e. within (suc u) t e) (λ u w t a b. let e = once (suc u) (suc w) t a b in omega (arith, e)) in
    let y_in : y < n = within 0 y refl in
    let fresh : is_used xs y ≡ false = not_used y xs (λ w e. let bad = once 0 (suc w) y refl e in absurd (omega (arith, bad))) in
    let one = one_passes_more (is_used xs) (is_used (Some y ∷ xs)) n y y_in (λ t h. or_second (y == t) (is_used xs t) h) fresh
    (or_first (y == y) (is_used xs y) (eq-eqb y y refl)) in
    omega (arith, rest, one, sum_by-cons (λ (o : Option ℕ). cond (is_some o) 1 0) (Some y) xs)

-- an image has at most as many kids as there are images without a source
kids_few : (sought : Sought) (s : PartialMisassignment) (u : ℕ) → IsPartialMisassignment s
    → length (kids_of sought s.sources u) + length s.order ≤ length s.sources
kids_few sought s u is =
    let n = length s.sources in
    let used = used_count s.sources n is.are.within is.are.once in
    let both = length-filter_both (is_used s.sources) (λ t. not (is_used s.sources t)) (λ t. refl) (range_with_len 0 n) in
    let kids = count_le (can_get sought s.sources u) (λ t. not (is_used s.sources t)) (range_with_len 0 n) (λ t h. (and_parts (not (is_used s.sources t)) (not (is_dead sought (with_source s.sources u t))) h).0) in
    omega (
      arith,
      used,
      both,
      kids,
      is.steps,
      length-range_with_len 0 n,
      length-filter (can_get sought s.sources u) (range_with_len 0 n),
      length-filter (is_used s.sources) (range_with_len 0 n),
      length-filter (λ t. not (is_used s.sources t)) (range_with_len 0 n),
    )

-- how many images have no source
abbrev left : PartialMisassignment → ℕ
left s = length s.sources - length s.order

fork_most : (c z p : ℕ) → c ≤ z → ((m : ℕ) → suc m ≡ z → p ≤ c * most_nodes m) → (c ≡ 0 → p ≡ 0)
    → 1 + p ≤ most_nodes z
fork_most c zero p few each nothing = omega (arith, nothing (omega (arith, few)))
fork_most c (suc m) p few each nothing = omega (arith, each m refl, mul-le-mul_right (most_nodes m) few)

no_kids : (ts : Roses ℕ Skipped) → count ts ≡ 0 → count_by is_pick (preorder_all ts) ≡ 0
no_kids none e = refl
no_kids (more t ts) e = absurd (omega (arith, e))

module _ (sought : Sought) where
  own_kid : (s : PartialMisassignment) (u n k : ℕ) → IsEvadeState sought s
      → (evade_steps sought).arity s u ≡ Some n → k < n
      → IsEvadeState sought ((evade_steps sought).kid s u k)
  own_kid s u n k own a lt = kid_is_own sought s u k ((evade_steps sought).kid s u k) (record { kids = n; is_own = own; arity = a; below = lt; is_kid = refl })

  one_less : (s : PartialMisassignment) (u n k m : ℕ) → IsEvadeState sought s
      → (evade_steps sought).arity s u ≡ Some n → k < n → suc m ≡ left s
      → left ((evade_steps sought).kid s u k) ≡ m
  one_less s u n k m own a lt e =
      omega (arith, e, with_long s.sources u (get_or (kids_of sought s.sources u) k 0), length-append s.order (u ∷ []))

  mutual
    attack_few : (t : Rose ℕ Skipped) (s : PartialMisassignment) → IsEvadeState sought s
        → ChecksWith true (evade_steps sought) s t
        → count_by is_pick (preorder t) ≤ most_nodes (left s)
    attack_few (Closed r) s own h = some_node (left s)
    attack_few Opened s own h = omega arith
    attack_few (Forked u ts) s own h =
        let may = allowed sought s u (count ts) h.0 in
        let few : count ts ≤ left s = omega (arith, may.1, kids_few sought s u own.partly) in
        let all = fork_most (count ts) (left s) (count_by is_pick (preorder_all ts)) few (λ m e. attacks_few ts s u 0 (count ts) m own h.0 (omega arith) e h.1) (no_kids ts) in
        omega (arith, all, sum_by-cons (λ (n : Node ℕ Skipped). cond (is_pick n) 1 0) (Fork u (count ts)) (preorder_all ts))

    attacks_few : (ts : Roses ℕ Skipped) (s : PartialMisassignment) (u from n m : ℕ)
        → IsEvadeState sought s → (evade_steps sought).arity s u ≡ Some n → from + count ts ≡ n
        → suc m ≡ left s
        → KidsCheckWith true (evade_steps sought) s u from ts
        → count_by is_pick (preorder_all ts) ≤ count ts * most_nodes m
    attacks_few none s u from n m own a last e h = omega arith
    attacks_few (more t ts) s u from n m own a last e h =
        let lt : from < n = omega (arith, last) in
        let kid = (evade_steps sought).kid s u from in
        let one = attack_few t kid (own_kid s u n from own a lt) h.0 in
        let same = ap most_nodes (one_less s u n from m own a lt e) in
        let rest = attacks_few ts s u (suc from) n m own a (omega (arith, last)) e h.1 in
        let both = sum_by-append (λ (n : Node ℕ Skipped). cond (is_pick n) 1 0) (preorder t) (preorder_all ts) in
        omega (arith, one, same, rest, both)

  -- an open tree over the misassignments of T targets has fewer than 3 T! Close and Fork nodes
  pub open_attack_few : (budget : ℕ) (nodes : List (Node ℕ Skipped))
      → IsEvadeState sought (start sought)
      → IsOpenTree (evade_steps sought) (start sought) budget nodes
      → budget < 3 * factorial (target_count sought.contests)
  open_attack_few budget nodes own open_tree =
      let bound = attack_few (tree_of nodes) (start sought) own open_tree.checks in
      let all : left (start sought) ≡ target_count sought.contests = omega (arith, length-replicate {A = Option ℕ} (target_count sought.contests) None) in
      let most = subst (λ (n : ℕ). count_by is_pick (preorder (tree_of nodes)) ≤ most_nodes n) all bound in
      let same : count_by is_pick (preorder (tree_of nodes)) ≡ budget = ap (count_by is_pick) open_tree.lists ∙ open_tree.count in
      omega (arith, most, same, most_factorial (target_count sought.contests))

-- A tree of one kid each shows that nothing evades the plain deck.
use Rattle.std.proofs.Common.{◌≡◌, ◌≢◌, ◌<◌, ◌≤◌, ◌+◌, ◌-◌, ◌*◌, ◌++◌, ◌&&◌, ◌||◌, inl, inr, ℕ, zero, suc, Bool, true, false, not, min, cond, Option, Some, None, is_some, is_none, List, [], ◌∷◌, length, map, drop, get_or, replicate, count_by, sum_by, refl, ap, sym, subst, ◌∙◌, arith, length-drop}
use Rattle.std.specs.Prelude.{◌==◌, slice_range, nat_lt, if◌then◌else◌}
use Rattle.std.specs.List.{range_with_len, filter, flat_map, list_any}
use Rattle.std.proofs.lemmas.Bool.{cases_lt, cases_eq, lt-ltb, and_parts, eq-eqb, not-true}
use Rattle.std.proofs.lemmas.Bool.Decides.{nat_tests}
use Rattle.std.proofs.lemmas.Grind.{flat_map-append, get_or-set_at}
use Rattle.std.proofs.lemmas.List.{append-nil, get_or-replicate, get_or-set_other, get_or-take, get_or-drop, get_or_default, get_or_past, length-take-le, length-replicate, length-set}
use Rattle.std.proofs.lemmas.List.Folds.{sum_by-replicate, list_any_at}
use Rattle.std.proofs.lemmas.List.FromFn.{get_or-range_with_len, get_or-map-range_with_len, length-range_with_len}
use Rattle.std.proofs.lemmas.List.Sums.{sum_by-append, sum_by-cons, get_or-le-sum_by, list_all-from_AllPass}
use Rattle.std.specs.List.{All}
use Rattle.lat_base.specs.declared.contest.Contest.{Contest}
use Rattle.lat_base.specs.Shape.{target_count, first_target, contest_of, contest_at, no_contest, IsShape}
use Rattle.lat_base.specs.Tally.{is_marked, reading, mark_count, is_overvoted, votes_for, total, report}
use Rattle.lat_base.specs.Misassignment.{identity}
use Rattle.lat_base.specs.Rules.{RuleSet}
use Rattle.lat_ballots.specs.Plain.{only, only_ballots, plain_ballots}
use Rattle.lat_misassign.proofs.Identity.{identity_is}
use Rattle.lemmas.proofs.Counting.{count_alike, count_map, count_le, none_pass, range_le_all}
use Rattle.readings.proofs.Places.{is_of, first_le}
use Rattle.lemmas.proofs.Ranges.{range_more, one_in}
use Rattle.readings.proofs.Readings.{reading_identity}
use Rattle.evade_space.specs.Sources.{source_at, is_that, is_free, is_used, with_source, given_places, empty_places}
use Rattle.evade_space.specs.Seen.{is_seen, seen, taken, is_free_mark, free_marks}
use Rattle.evade_space.specs.Votes.{must_vote_on, must_vote}
use Rattle.evade_space.specs.Dead.{has_too_few, has_too_many, is_missed, is_overspent, is_dead}
use Rattle.evade_space.specs.Kids.{can_get, kids_of}
use Rattle.evade_space.specs.PartialMisassignment.{PartialMisassignment}
use Rattle.evade_space.specs.Sought.{own_sought, start}
use Rattle.evade_space.specs.Trees.{IsRobustTree}
use Rattle.evade_space.specs.Steps.{evade_steps, has_skipped}
use Rattle.evade_space.specs.declared.skipped.Skipped.{Skipped}
use Rattle.tree_core.specs.declared.node.Node.{Node}
use Rattle.tree_core.specs.declared.node.Node.TheVariants.{Close, Fork}
use Rattle.tree_core.specs.Rose.{Rose, Closed, Forked, none, more, preorder}
use Rattle.tree_core.specs.Reading.{tree_of}
use Rattle.tree_core.specs.Checks.{Checks}
use Rattle.tree_core.proofs.Trees.{tree_of-preorder}
use Rattle.evade_space.proofs.Known.{with_long, at_image, at_other, free_is}
use Rattle.evade_space.proofs.AttackBounds.{not_used}
use Rattle.evade_space.proofs.Counted.{must_is, marked_within}
use Rattle.evade_space.proofs.Filtered.{filter_suc}
use Rattle.evade_space.proofs.KeptLost.{sum_but}
use Rattle.evade_space.proofs.LossBounds.{alive}
use Rattle.evade_space.proofs.NoLoss.{taken_given}
use Rattle.evade_space.proofs.OneMore.{OneMore, taken_here, free_here}
use Rattle.evade_space.proofs.Ranges.{any_here}

-- copies that pass a test
count_copies : (p : List Bool → Bool) (k : ℕ) (b : List Bool)
    → count_by p (replicate k b) ≡ cond (p b) k 0
count_copies p k b = sum_by-replicate (λ (x : List Bool). cond (p x) 1 0) k b ∙ by_test (p b)
  where
    by_test : (x : Bool) → k * cond x 1 0 ≡ cond x k 0
    by_test true = let e : k * 1 ≡ k = omega arith in e
    by_test false = let e : k * 0 ≡ 0 = omega arith in e

-- how many ballots mark only target t
abbrev copies : RuleSet → ℕ → ℕ
copies rules t = t + 1 + (rules.least - 1)

count_runs : (p : List Bool → Bool) (targets : ℕ) (rules : RuleSet) (n : ℕ)
    → count_by p (flat_map (only_ballots targets rules) (range_with_len 0 n))
    ≡ sum_by (λ t. cond (p (only targets t)) (copies rules t) 0) (range_with_len 0 n)
count_runs p targets rules zero = refl
count_runs p targets rules (suc n) =
    let next : suc n ≡ n + 1 = omega arith in
    let f : ℕ → List (List Bool) = only_ballots targets rules in
    let g : ℕ → ℕ = λ t. cond (p (only targets t)) (copies rules t) 0 in
    let split = ap (λ (m : ℕ). count_by p (flat_map (only_ballots targets rules) (range_with_len 0 m))) next ∙ ap (λ (xs : List ℕ). count_by p (flat_map (only_ballots targets rules) xs)) (range_more n)
    ∙ ap (count_by p) (flat_map-append (only_ballots targets rules) (range_with_len 0 n) (n ∷ []))
    ∙ sum_by-append (λ (b : List Bool). cond (p b) 1 0) (flat_map (only_ballots targets rules) (range_with_len 0 n)) (only_ballots targets rules n ++ []) in
    let last = ap (count_by p) (append-nil (only_ballots targets rules n)) ∙ count_copies p (copies rules n) (only targets n) in
    let sums = ap (λ (m : ℕ). sum_by (λ t. cond (p (only targets t)) (copies rules t) 0) (range_with_len 0 m)) next ∙ ap (sum_by (λ t. cond (p (only targets t)) (copies rules t) 0)) (range_more n)
    ∙ sum_by-append (λ t. cond (p (only targets t)) (copies rules t) 0) (range_with_len 0 n) (n ∷ []) in
    let one = sum_by-cons (λ t. cond (p (only targets t)) (copies rules t) 0) n [] in
    omega (arith, split, last, sums, one, count_runs p targets rules n)

-- the ballots of the plain deck that pass a test
pub plain_count : (p : List Bool → Bool) (targets : ℕ) (rules : RuleSet)
    → count_by p (plain_ballots targets rules).ballots
    ≡ cond (p (replicate targets true)) rules.over 0 + sum_by (λ t. cond (p (only targets t)) (copies rules t) 0) (range_with_len 0 targets) + cond (p (replicate targets false)) rules.blank 0
plain_count p targets rules =
    let full = replicate rules.over (replicate targets true) in
    let runs = flat_map (only_ballots targets rules) (range_with_len 0 targets) in
    omega (
      arith,
      sum_by-append (λ (b : List Bool). cond (p b) 1 0) (replicate rules.over (replicate targets true) ++ flat_map (only_ballots targets rules) (range_with_len 0 targets)) (replicate rules.blank (replicate targets false)),
      sum_by-append (λ (b : List Bool). cond (p b) 1 0) (replicate rules.over (replicate targets true)) (flat_map (only_ballots targets rules) (range_with_len 0 targets)),
      count_copies p rules.over (replicate targets true),
      count_runs p targets rules targets,
      count_copies p rules.blank (replicate targets false),
    )

-- marks of the plain deck's ballots
pub only_long : (targets t : ℕ) → length (only targets t) ≡ targets
only_long targets t = length-set (replicate targets false) t true ∙ length-replicate targets false

pub only_here : (targets t : ℕ) → t < targets → is_marked (only targets t) t ≡ true
only_here targets t lt = get_or-set_at (replicate targets false) t t true false refl (omega (arith, lt, length-replicate targets false))

blank_mark : (targets u : ℕ) → is_marked (replicate targets false) u ≡ false
blank_mark targets u = elim (cases_lt u targets) [
  | inl lt ↦ get_or-replicate targets u false false lt
  | inr ge ↦ get_or_past (replicate targets false) u false (omega (arith, ge, length-replicate targets false))
]

pub only_other : (targets t u : ℕ) → u ≢ t → is_marked (only targets t) u ≡ false
only_other targets t u ne = get_or-set_other (replicate targets false) t u true false ne ∙ blank_mark targets u

full_mark : (targets u : ℕ) → u < targets → is_marked (replicate targets true) u ≡ true
full_mark targets u lt = get_or-replicate targets u true false lt

-- a sum of which all terms but one are 0
zeros : (n : ℕ) → sum_by (λ (t : ℕ). 0) (range_with_len 0 n) ≡ 0
zeros zero = refl
zeros (suc n) =
    let next : suc n ≡ n + 1 = omega arith in
    omega (
      arith,
      ap (λ (m : ℕ). sum_by (λ (t : ℕ). 0) (range_with_len 0 m)) next ∙ ap (sum_by (λ (t : ℕ). 0)) (range_more n) ∙ sum_by-append (λ (t : ℕ). 0) (range_with_len 0 n) (n ∷ []),
      sum_by-cons (λ (t : ℕ). 0) n [],
      zeros n,
    )

pub sum_one : (f : ℕ → ℕ) (n i : ℕ) → i < n → ((j : ℕ) → j < n → j ≢ i → f j ≡ 0)
    → sum_by f (range_with_len 0 n) ≡ f i
sum_one f n i lt h = let but = sum_but f (λ (t : ℕ). 0) n i lt h in omega (arith, but, zeros n)

sum_some : (f : ℕ → ℕ) (n i : ℕ) → i < n → f i ≤ sum_by f (range_with_len 0 n)
sum_some f n i lt =
    let at : get_or (range_with_len 0 n) i 0 ≡ i = omega (arith, get_or-range_with_len 0 n i 0 lt) in
    omega (arith, ap f at, get_or-le-sum_by f (range_with_len 0 n) i 0 (omega (arith, lt, length-range_with_len 0 n)))

-- the numbers of a range that pass a test, where only one does
filter_none : (p : ℕ → Bool) (n : ℕ) → ((j : ℕ) → j < n → p j ≡ false)
    → filter p (range_with_len 0 n) ≡ []
filter_none p zero h = refl
filter_none p (suc n) h = filter_suc p n ∙ (λ i. filter_none p n (λ j lt. h j (omega (arith, lt))) i ++ cond (h n (omega arith) i) (n ∷ []) [])

filter_one : (p : ℕ → Bool) (n i : ℕ) → i < n → ((j : ℕ) → j < n → j ≢ i → p j ≡ false) → p i ≡ true
    → filter p (range_with_len 0 n) ≡ i ∷ []
filter_one p zero i lt h yes_i = absurd (omega arith)
filter_one p (suc n) i lt h yes_i = elim (cases_eq n i) [
  | inl same ↦
      let passes : p n ≡ true = ap p same ∙ yes_i in
      filter_suc p n ∙ (λ k. filter_none p n (λ j less. h j (omega (arith, less)) (λ e. omega (arith, e, same, less))) k ++ cond (passes k) (n ∷ []) []) ∙ ap (λ (x : ℕ). x ∷ []) same
  | inr ne ↦ filter_suc p n ∙ (λ k. filter_one p n i (omega (arith, lt, ne)) (λ j less. h j (omega (arith, less))) yes_i k ++ cond (h n (omega arith) ne k) (n ∷ []) [])
]

-- the first i images have themselves as sources, and no other has one
pub record AreFirst (targets : ℕ) (sources : List (Option ℕ)) (i : ℕ) : Type 0 where
  pub long : length sources ≡ targets
  pub own : (u : ℕ) → u < i → source_at sources u ≡ Some u
  pub rest : (u : ℕ) → i ≤ u → source_at sources u ≡ None

first_more : (targets : ℕ) (sources : List (Option ℕ)) (i x : ℕ) → AreFirst targets sources i
    → i < targets → x ≡ i → AreFirst targets (with_source sources i x) (suc i)
first_more targets sources i x are lt e = record {
  long = with_long sources i x ∙ are.long;
  own = λ u less. elim (cases_eq u i) [
    | inl same ↦ ap (source_at (with_source sources i x)) same ∙ at_image sources i x (omega (arith, lt, are.long)) ∙ ap (λ (k : ℕ). Some k) (e ∙ sym same)
    | inr ne ↦ at_other sources i x u ne ∙ are.own u (omega (arith, less, ne))
  ];
  rest = λ u le. at_other sources i x u (λ same. omega (arith, same, le)) ∙ are.rest u (omega (arith, le));
}

is_below : (targets : ℕ) (sources : List (Option ℕ)) (i w t : ℕ) → AreFirst targets sources i
    → source_at sources w ≡ Some t → (w < i) × (w ≡ t)
is_below targets sources i w t are e = elim (cases_lt w i) [
  | inl lt ↦ (lt, (let at = are.own w lt in cc))
  | inr ge ↦ absurd (let at = are.rest w ge in cc)
]

module _ (contests : List Contest) (rules : RuleSet) (shape : IsShape contests) where
  abbrev n : ℕ
  n = target_count contests

  abbrev deck : List (List Bool)
  deck = (plain_ballots (target_count contests) rules).ballots

  -- whether a ballot votes for an image under the identity
  abbrev votes : ℕ → List Bool → Bool
  votes i ballot = votes_for contests (reading ballot (identity (target_count contests))) i

  votes_read : (i : ℕ) (ballot : List Bool) → length ballot ≡ target_count contests
      → votes i ballot ≡ votes_for contests ballot i
  votes_read i ballot long = ap (λ (r : List Bool). votes_for contests r i) (reading_identity ballot (target_count contests) long)

  unmarked_vote : (i : ℕ) (ballot : List Bool) → length ballot ≡ target_count contests
      → is_marked ballot i ≡ false → votes i ballot ≡ false
  unmarked_vote i ballot long e = votes_read i ballot long ∙ ap (λ (m : Bool). m && not (is_overvoted contests ballot (contest_of contests i))) e

  at_most : (p : Bool) (k : ℕ) → cond p k 0 ≤ k
  at_most true k = omega arith
  at_most false k = omega arith

  -- the wanted votes
  pub wanted_few : (i : ℕ) → i < target_count contests
      → total contests deck (identity (target_count contests)) i
      ≤ cond (votes i (replicate (target_count contests) true)) rules.over 0 + copies rules i
  wanted_few i lt =
      let count = plain_count (votes i) (target_count contests) rules in
      let one = sum_one (λ t. cond (votes i (only (target_count contests) t)) (copies rules t) 0) (target_count contests) i lt
      (λ j less ne. ap {B = ℕ} (λ (b : Bool). cond b (copies rules j) 0) (unmarked_vote i (only (target_count contests) j) (only_long (target_count contests) j) (only_other (target_count contests) j i (λ e. ne (sym e))))) in
      let no_blank : ◌≡◌ {A = ℕ} (cond (votes i (replicate (target_count contests) false)) rules.blank 0) 0 = ap {B = ℕ} (λ (b : Bool). cond b rules.blank 0) (unmarked_vote i (replicate (target_count contests) false) (length-replicate (target_count contests) false) (blank_mark (target_count contests) i)) in
      omega (arith, count, one, no_blank, at_most (votes i (only (target_count contests) i)) (copies rules i))

  module _ (sources : List (Option ℕ)) (i t : ℕ) (are : AreFirst (target_count contests) sources i) (lt : i < t) (inside : t < target_count contests) where
    abbrev after : List (Option ℕ)
    after = with_source sources i t

    one : OneMore contests sources i t (contest_of contests i)
    one =
        let at = is_of contests i (omega (arith, lt, inside)) in
        record {
          from = at.from;
          to = at.to;
          whole = omega (arith, first_le contests (contest_of contests i + 1), are.long);
          free = are.rest i (omega arith);
          target = omega (arith, inside, are.long);
          unused = not_used t sources (λ w e. let below = is_below (target_count contests) sources i w t are e in let a = below.0 in let b = below.1 in omega (arith, a, b, lt));
        }

    -- no ballot that marks only t marks an earlier source
    none_taken : taken contests sources (only (target_count contests) t) (contest_of contests i) ≡ 0
    none_taken =
        let ballot : List Bool = only (target_count contests) t in
        let few = range_le_all (λ (m : Bool). m) (seen sources (only (target_count contests) t)) (first_target contests (contest_of contests i)) (first_target contests (contest_of contests i + 1)) in
        let all = count_map (is_seen (only (target_count contests) t)) (λ (m : Bool). m) sources in
        let fail : All (λ o. is_seen (only (target_count contests) t) o ≡ false) sources = λ k d less. by_source k d less (source_at sources k) refl in
        let zero_count = count_alike (is_seen (only (target_count contests) t)) (λ (o : Option ℕ). false) sources fail ∙ none_pass sources in
        omega (arith, few, all, zero_count)
      where
        by_source : (k : ℕ) (d : Option ℕ) → k < length sources → (o : Option ℕ)
            → source_at sources k ≡ o → is_seen (only (target_count contests) t)
            (get_or sources k d) ≡ false
        by_source k d less None e = ap (is_seen (only (target_count contests) t)) (get_or_default sources k d None less ∙ e)
        by_source k d less (Some x) e =
            let below = is_below (target_count contests) sources i k x are e in
            let a = below.0 in
            let b = below.1 in
            ap (is_seen (only (target_count contests) t)) (get_or_default sources k d None less ∙ e) ∙ only_other (target_count contests) t x (λ same. omega (arith, a, b, same, lt))

    -- nor an unused target once t is taken
    none_free : free_marks after (only (target_count contests) t) ≡ 0
    none_free =
        let before = free_here contests sources i t (contest_of contests i) (only (target_count contests) t) one in
        let mark : ◌≡◌ {A = ℕ} (cond (is_marked (only (target_count contests) t) t) 1 0) 1 = ap {B = ℕ} (λ (b : Bool). cond b 1 0) (only_here (target_count contests) t inside) in
        let few = count_le (is_free_mark sources (only (target_count contests) t)) (λ (x : ℕ). x == t) (range_with_len 0 (length sources))
        (λ x h. is_that_one x (and_parts (is_marked (only (target_count contests) t) x) (not (is_used sources x)) h).0) in
        omega (arith, before, mark, few, one_in 0 (length sources) t (omega arith) (omega (arith, inside, are.long)))
      where
        is_that_one : (x : ℕ) → is_marked (only (target_count contests) t) x ≡ true
            → (x == t) ≡ true
        is_that_one x h = elim (cases_eq x t) [
          | inl e ↦ eq-eqb x t e
          | inr ne ↦ absurd (let no_mark = only_other (target_count contests) t x ne in cc)
        ]

    limit_some : 1 ≤ (contest_at contests (contest_of contests i)).limit
    limit_some = (shape.limits (contest_of contests i) no_contest (is_of contests i (omega (arith, lt, inside))).contest).0

    image_in : i < length after
    image_in = omega (arith, lt, inside, are.long, with_long sources i t)

    source_is : source_at after i ≡ Some t
    source_is = at_image sources i t (omega (arith, lt, inside, are.long))

    least_zero : (m k : ℕ) → k ≡ 0 → min m k ≡ 0
    least_zero m k e = grind arith

    -- a ballot that marks only t surely votes for i
    pub only_sure : must_vote_on contests after i (only (target_count contests) t) ≡ true
    only_sure =
        let c : ℕ = contest_of contests i in
        let here = taken_here contests sources i t (contest_of contests i) (only (target_count contests) t) one in
        let mark : ◌≡◌ {A = ℕ} (cond (is_marked (only (target_count contests) t) t) 1 0) 1 = ap {B = ℕ} (λ (b : Bool). cond b 1 0) (only_here (target_count contests) t inside) in
        let zero_more = least_zero (empty_places contests after (contest_of contests i)) (free_marks after (only (target_count contests) t)) none_free in
        must_is contests after i t (only (target_count contests) t) (taken contests after (only (target_count contests) t) (contest_of contests i))
        (min (empty_places contests after (contest_of contests i)) (free_marks after (only (target_count contests) t))) image_in source_is refl refl
        ∙ marked_within (is_marked (only (target_count contests) t) t) (taken contests after (only (target_count contests) t) (contest_of contests i) + min (empty_places contests after (contest_of contests i)) (free_marks after (only (target_count contests) t)))
        (contest_at contests (contest_of contests i)).limit (only_here (target_count contests) t inside) (omega (arith, here, none_taken, mark, zero_more, limit_some))

    both_places : (xs : List (Option ℕ)) → count_by is_some xs + count_by is_none xs ≡ length xs
    both_places [] = refl
    both_places (None ∷ xs) = omega (arith, both_places xs, sum_by-cons (λ (o : Option ℕ). cond (is_some o) 1 0) None xs, sum_by-cons (λ (o : Option ℕ). cond (is_none o) 1 0) None xs)
    both_places (Some x ∷ xs) = omega (arith, both_places xs, sum_by-cons (λ (o : Option ℕ). cond (is_some o) 1 0) (Some x) xs, sum_by-cons (λ (o : Option ℕ). cond (is_none o) 1 0) (Some x) xs)

    all_true : (xs : List Bool) → All (λ m. m ≡ true) xs → count_by (λ m. m) xs ≡ length xs
    all_true xs h = count_alike (λ (m : Bool). m) (λ (m : Bool). true) xs h ∙ every xs
      where
        every : (ys : List Bool) → count_by (λ m. true) ys ≡ length ys
        every [] = refl
        every (y ∷ ys) = omega (arith, every ys, sum_by-cons (λ (m : Bool). cond true 1 0) y ys)

    -- a wholly marked ballot marks each target of a contest
    full_count : mark_count contests (replicate (target_count contests) true)
        (contest_of contests i) ≡ first_target contests (contest_of contests i + 1) - first_target
        contests (contest_of contests i)
    full_count =
        let a : ℕ = first_target contests (contest_of contests i) in
        let b : ℕ = first_target contests (contest_of contests i + 1) in
        let whole = first_le contests (contest_of contests i + 1) in
        let long = length-take-le (first_target contests (contest_of contests i + 1) - first_target contests (contest_of contests i)) (drop (first_target contests (contest_of contests i)) (replicate (target_count contests) true))
        (omega (arith, length-drop (first_target contests (contest_of contests i)) (replicate (target_count contests) true), length-replicate (target_count contests) true, whole)) in
        all_true (slice_range (replicate (target_count contests) true) (first_target contests (contest_of contests i)) (first_target contests (contest_of contests i + 1)))
        (λ k d less.
        get_or-take (first_target contests (contest_of contests i + 1) - first_target contests (contest_of contests i)) (drop (first_target contests (contest_of contests i)) (replicate (target_count contests) true)) k d (omega (arith, less, long))
        ∙ get_or-drop (first_target contests (contest_of contests i)) (replicate (target_count contests) true) k d
        ∙ get_or-replicate (target_count contests) (first_target contests (contest_of contests i) + k) true d (omega (arith, less, long, whole)))
        ∙ long

    places_are : given_places contests after (contest_of contests i) + empty_places contests after
        (contest_of contests i) ≡ first_target contests (contest_of contests i + 1) - first_target
        contests (contest_of contests i)
    places_are =
        let whole = first_le contests (contest_of contests i + 1) in
        both_places (slice_range after (first_target contests (contest_of contests i)) (first_target contests (contest_of contests i + 1)))
        ∙ length-take-le (first_target contests (contest_of contests i + 1) - first_target contests (contest_of contests i)) (drop (first_target contests (contest_of contests i)) after)
        (omega (arith, length-drop (first_target contests (contest_of contests i)) after, with_long sources i t, are.long, whole))

    min_le : (a b : ℕ) → min a b ≤ a
    min_le a b = grind arith

    -- a wholly marked ballot that votes for i surely does
    pub full_sure : votes i (replicate (target_count contests) true) ≡ true
        → must_vote_on contests after i (replicate (target_count contests) true) ≡ true
    full_sure h =
        let read = sym (votes_read i (replicate (target_count contests) true) (length-replicate (target_count contests) true)) ∙ h in
        let fits = not-true (is_overvoted contests (replicate (target_count contests) true) (contest_of contests i))
        (and_parts (is_marked (replicate (target_count contests) true) i) (not (is_overvoted contests (replicate (target_count contests) true) (contest_of contests i))) read).1 in
        let within : mark_count contests (replicate (target_count contests) true) (contest_of contests i) ≤ (contest_at contests (contest_of contests i)).limit = not_over _ _ fits in
        let few = taken_given contests after (replicate (target_count contests) true) (contest_of contests i) in
        let rest = min_le (empty_places contests after (contest_of contests i)) (free_marks after (replicate (target_count contests) true)) in
        must_is contests after i t (replicate (target_count contests) true) (taken contests after (replicate (target_count contests) true) (contest_of contests i))
        (min (empty_places contests after (contest_of contests i)) (free_marks after (replicate (target_count contests) true))) image_in source_is refl refl
        ∙ marked_within (is_marked (replicate (target_count contests) true) t) (taken contests after (replicate (target_count contests) true) (contest_of contests i) + min (empty_places contests after (contest_of contests i)) (free_marks after (replicate (target_count contests) true)))
        (contest_at contests (contest_of contests i)).limit (full_mark (target_count contests) t inside) (omega (arith, few, rest, within, full_count, places_are))
      where
        not_over : (m l : ℕ) → nat_lt l m ≡ false → m ≤ l
        not_over m l e = grind (arith, nat_tests)

    cond_le : (p q : Bool) (k : ℕ) → (p ≡ true → q ≡ true) → cond p k 0 ≤ cond q k 0
    cond_le false q k h = omega arith
    cond_le true true k h = omega arith
    cond_le true false k h = absurd (cc (h refl))

    -- so more ballots vote for i than are wanted
    pub more_vote : total contests deck (identity (target_count contests)) i
        < must_vote contests deck after i
    more_vote =
        let count = plain_count (must_vote_on contests after i) (target_count contests) rules in
        let runs = sum_some (λ x. cond (must_vote_on contests after i (only (target_count contests) x)) (copies rules x) 0) (target_count contests) t inside in
        let sure : ◌≡◌ {A = ℕ} (cond (must_vote_on contests after i (only (target_count contests) t)) (copies rules t) 0) (copies rules t) = ap {B = ℕ} (λ (b : Bool). cond b (copies rules t) 0) only_sure in
        let full = cond_le (votes i (replicate (target_count contests) true)) (must_vote_on contests after i (replicate (target_count contests) true)) rules.over full_sure in
        omega (arith, count, runs, sure, full, wanted_few i (omega (arith, lt, inside)), lt)

    pub later_dead : is_dead (own_sought contests deck) after ≡ true
    later_dead =
        let wanted : get_or (report contests deck (identity (target_count contests))) i 0 ≡ total contests deck (identity (target_count contests)) i =
        get_or-map-range_with_len (total contests deck (identity (target_count contests))) 0 (target_count contests) i i 0 (omega (arith, lt, inside)) (omega arith) in
        let many : has_too_many (own_sought contests deck) after i ≡ true = lt-ltb (get_or (report contests deck (identity (target_count contests))) i 0) (must_vote contests deck after i) (omega (arith, wanted, more_vote)) in
        let missed : is_missed (own_sought contests deck) after i ≡ true =
        (λ k. is_some (source_is k) && (has_too_few (own_sought contests deck) after i || many k)) ∙ or_true (has_too_few (own_sought contests deck) after i) in
        or_first (list_any (is_missed (own_sought contests deck) after) (range_with_len 0 (length after))) (is_overspent (own_sought contests deck) after) (any_here (is_missed (own_sought contests deck) after) (length after) i image_in missed)
      where
        or_true : (a : Bool) → (a || true) ≡ true
        or_true true = refl
        or_true false = refl

        or_first : (a b : Bool) → a ≡ true → (a || b) ≡ true
        or_first a b e = ap (λ (x : Bool). x || b) e

  -- an image's own target is the only one that it can get
  module _ (sources : List (Option ℕ)) (i : ℕ) (are : AreFirst (target_count contests) sources i) (lt : i < target_count contests) where
    own_lives : is_dead (own_sought contests deck) (with_source sources i i) ≡ false
    own_lives =
        let next = first_more (target_count contests) sources i i are lt refl in
        alive (own_sought contests deck) (with_source sources i i) (identity (target_count contests))
        (record {
          long = next.long;
          is = identity_is (target_count contests);
          extends = λ u x e.
              let below = is_below (target_count contests) (with_source sources i i) (suc i) u x next e in
              let a = below.0 in
              let b = below.1 in
              omega (arith, b, get_or-range_with_len 0 (target_count contests) u 0 (omega (arith, a, lt)));
        }) refl

    own_unused : is_used sources i ≡ false
    own_unused = not_used i sources (λ w e. let below = is_below (target_count contests) sources i w i are e in let a = below.0 in let b = below.1 in omega (arith, a, b))

    earlier_used : (x : ℕ) → x < i → is_used sources x ≡ true
    earlier_used x less =
        let same : (x == x) ≡ true = eq-eqb x x refl in
        list_any_at (is_that x) sources x None (omega (arith, less, lt, are.long)) (ap (is_that x) (are.own x less) ∙ same)

    pub one_kid : kids_of (own_sought contests deck) sources i ≡ i ∷ []
    one_kid =
        ap (λ (m : ℕ). filter (can_get (own_sought contests deck) sources i) (range_with_len 0 m)) are.long
        ∙ filter_one (can_get (own_sought contests deck) sources i) (target_count contests) i lt
        (λ j less ne. elim (cases_lt j i) [
          | inl before ↦ ap (λ (b : Bool). not b && not (is_dead (own_sought contests deck) (with_source sources i j))) (earlier_used j before)
          | inr ge ↦ and_no (not (is_used sources j)) (is_dead (own_sought contests deck) (with_source sources i j)) (later_dead sources i j are (omega (arith, ge, ne)) less)
        ])
        (λ k. not (own_unused k) && not (own_lives k))
      where
        and_no : (a b : Bool) → b ≡ true → (a && not b) ≡ false
        and_no true b e = ap not e
        and_no false b e = refl

  -- the rest of the tree, from image i on
  abbrev chain : Skipped → ℕ → ℕ → Rose ℕ Skipped
  chain r i zero = Closed r
  chain r i (suc k) = Forked i (more (chain r (suc i) k) none)

  chain_checks : (r : Skipped) (k i : ℕ) (s : PartialMisassignment)
      → AreFirst (target_count contests) s.sources i → i + k ≡ target_count contests
      → Checks (evade_steps (own_sought contests deck)) s (chain r i k)
  chain_checks r zero i s are e =
      let all : (u : ℕ) → u < length s.sources → has_skipped (own_sought contests deck) s.sources u ≡ true = λ u less.
      let at : get_or (identity (target_count contests)) u 0 ≡ u = omega (arith, get_or-range_with_len 0 (target_count contests) u 0 (omega (arith, less, are.long))) in
      let same : (u == u) ≡ true = eq-eqb u u refl in
      (λ k. is_that (at k) (are.own u (omega (arith, less, are.long, e)) k)) ∙ same in
      list_all-from_AllPass (has_skipped (own_sought contests deck) s.sources) (range_with_len 0 (length s.sources))
      (λ k d less.
      let inside : k < length s.sources = omega (arith, less, length-range_with_len 0 (length s.sources)) in
      let at : get_or (range_with_len 0 (length s.sources)) k d ≡ k = omega (arith, get_or-range_with_len 0 (length s.sources) k d inside) in
      ap (has_skipped (own_sought contests deck) s.sources) at ∙ all k inside)
  chain_checks r (suc k) i s are e =
      let lt : i < target_count contests = omega (arith, e) in
      let kids = one_kid s.sources i are lt in
      let free : is_free s.sources i ≡ true = sym (free_is s.sources i (omega (arith, lt, are.long))) ∙ ap is_none (are.rest i (omega arith)) in
      let first : get_or (kids_of (own_sought contests deck) s.sources i) 0 0 ≡ i = ap (λ (xs : List ℕ). get_or xs 0 0) kids in (
        (λ j. if free j then Some (length (kids_of (own_sought contests deck) s.sources i)) else None) ∙ ap (λ (xs : List ℕ). Some (length xs)) kids,
        (chain_checks r k (suc i) ((evade_steps (own_sought contests deck)).kid s i 0) (first_more (target_count contests) s.sources i (get_or (kids_of (own_sought contests deck) s.sources i) 0 0) are lt first) (omega (arith, e)), tt),
      )

  abbrev pub forks_of : ℕ → ℕ → List (Node ℕ Skipped)
  forks_of i k = map (λ u. Fork u 1) (range_with_len i k)

  chain_nodes : (r : Skipped) (k i : ℕ) → preorder (chain r i k) ≡ forks_of i k ++ Close r ∷ []
  chain_nodes r zero i = refl
  chain_nodes r (suc k) i =
      let next : suc i ≡ i + 1 = omega arith in
      ap (λ (ns : List (Node ℕ Skipped)). Fork i 1 ∷ ns) (append-nil (preorder (chain r (suc i) k)) ∙ chain_nodes r k (suc i) ∙ ap (λ (m : ℕ). forks_of m k ++ Close r ∷ []) next)

  first_start : AreFirst (target_count contests) (replicate (target_count contests) None) 0
  first_start = record {
    long = length-replicate {A = Option ℕ} (target_count contests) None;
    own = λ u less. absurd (omega (arith, less));
    rest = λ u le. elim (cases_lt u (target_count contests)) [
      | inl lt ↦ get_or-replicate (target_count contests) u None None lt
      | inr ge ↦ get_or_past (replicate (target_count contests) None) u None (omega (arith, ge, length-replicate {A = Option ℕ} (target_count contests) None))
    ];
  }

  -- the tree checks, and its nodes list it
  pub plain_tree : (r : Skipped) (nodes : List (Node ℕ Skipped))
      → nodes ≡ map (λ u. Fork u 1) (range_with_len 0 (target_count contests)) ++ Close r ∷ []
      → IsRobustTree contests deck nodes
  plain_tree r nodes e =
      let is : nodes ≡ preorder (chain r 0 (target_count contests)) = e ∙ sym (chain_nodes r (target_count contests) 0) in
      record {
        lists = ap (λ (ns : List (Node ℕ Skipped)). preorder (tree_of ns)) is ∙ ap preorder (tree_of-preorder (chain r 0 (target_count contests))) ∙ sym is;
        checks = subst (Checks (evade_steps (own_sought contests deck)) (start (own_sought contests deck))) (sym (ap tree_of is ∙ tree_of-preorder (chain r 0 (target_count contests))))
            (chain_checks r (target_count contests) 0 (start (own_sought contests deck)) first_start (omega arith));
      }

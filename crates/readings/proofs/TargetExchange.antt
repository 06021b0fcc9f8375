-- Two targets of a contest that are exchanged.
use Rattle.std.proofs.Common.{◌≡◌, ◌≢◌, ◌<◌, ◌+◌, ◌-◌, ℕ, Bool, true, false, List, length, get_or, set, cond, map, refl, ap, sym, subst, ◌∙◌, arith, IsPermutation}
use Rattle.std.specs.Prelude.{◌==◌}
use Rattle.std.specs.List.{range_with_len}
use Rattle.std.proofs.lemmas.List.{same_lists, get_or-set_same, get_or-set_other, length-set}
use Rattle.std.proofs.lemmas.List.FromFn.{get_or-range_with_len, length-range_with_len, get_or-map-range_with_len, length-map-range_with_len}
use Rattle.std.proofs.lemmas.List.Sorted.{IsPermutation-refl, IsPermutation-swap}
use Rattle.std.proofs.lemmas.List.Edits.{swap_is}
use Rattle.std.proofs.lemmas.Bool.Decides.{nat_tests}
use Rattle.lat_base.specs.declared.contest.Contest.{Contest}
use Rattle.lat_base.specs.Shape.{target_count, first_target, contest_at, contest_of}
use Rattle.lat_base.specs.Tally.{own_total}
use Rattle.lat_base.specs.Deck.{Fits}
use Rattle.lat_base.specs.Goodness.{IsRobust}
use Rattle.readings.specs.Turn.{exchange}
use Rattle.readings.specs.Structural.{IsStructural, targets_of}
use Rattle.readings.proofs.Places.{IsOf, contest_is, of_one, nth_is_of, first_next, first_le}
use Rattle.readings.proofs.Made.{exchange_turn}
use Rattle.readings.proofs.RobustDecks.{structural_stays}

-- a function that moves a range along
pub range_moved : (f : ℕ → ℕ) (a b n : ℕ) → ((i : ℕ) → i < n → f (a + i) ≡ b + i)
    → map f (range_with_len a n) ≡ range_with_len b n
range_moved f a b n h = same_lists (map f (range_with_len a n)) (range_with_len b n) (length-map-range_with_len f a n ∙ sym (length-range_with_len b n))
    (λ k d lt.
    let k_in : k < n = omega (arith, lt, length-map-range_with_len f a n) in
    get_or-map-range_with_len f a n k (a + k) d k_in refl ∙ (h k k_in ∙ sym (get_or-range_with_len b n k d k_in)))

-- equal lists are a permutation
pub same_permutation : (xs ys : List ℕ) → ys ≡ xs → IsPermutation xs ys
same_permutation xs ys e = subst (λ (zs : List ℕ). IsPermutation xs zs) (sym e) (IsPermutation-refl xs)

-- a range in which two places were exchanged
exchanged_range : (a n i j : ℕ) → i < n → j < n → i ≢ j
    → IsPermutation (range_with_len a n) (map (exchange (a + i) (a + j)) (range_with_len a n))
exchanged_range a n i j h k other =
    let xs = range_with_len a n in
    let long : length xs ≡ n = length-range_with_len a n in
    let one = set xs i (get_or xs j 0) in
    let both = set one j (get_or xs i 0) in
    let at_i : get_or xs i 0 ≡ a + i = get_or-range_with_len a n i 0 h in
    let at_j : get_or xs j 0 ≡ a + j = get_or-range_with_len a n j 0 k in
    let one_long : length one ≡ n = length-set xs i (get_or xs j 0) ∙ long in
    let both_long : length both ≡ n = length-set one j (get_or xs i 0) ∙ one_long in
    let is : map (exchange (a + i) (a + j)) xs ≡ both =
    same_lists (map (exchange (a + i) (a + j)) xs) both (length-map-range_with_len (exchange (a + i) (a + j)) a n ∙ sym both_long)
    (λ p d lt.
    let p_in : p < n = omega (arith, lt, length-map-range_with_len (exchange (a + i) (a + j)) a n) in
    get_or-map-range_with_len (exchange (a + i) (a + j)) a n p (a + p) d p_in refl
    ∙ by_place xs one p d (p == i) (p == j) refl refl p_in long one_long at_i at_j (get_or-range_with_len a n p d p_in)) in
    IsPermutation-swap xs (map (exchange (a + i) (a + j)) xs) i j (omega (arith, h, long)) (omega (arith, k, long)) (is ∙ swap_is xs i j 0 (omega (arith, h, long)) (omega (arith, k, long)))
  where
    by_place : (xs one : List ℕ) (p d : ℕ) (x y : Bool) → (p == i) ≡ x → (p == j) ≡ y → p < n
        → length xs ≡ n → length (set xs i (get_or xs j 0)) ≡ n → get_or xs i 0 ≡ a + i
        → get_or xs j 0 ≡ a + j → get_or xs p d ≡ a + p
        → exchange (a + i) (a + j) (a + p)
        ≡ get_or (set (set xs i (get_or xs j 0)) j (get_or xs i 0)) p d
    by_place xs one p d x true e f p_in long one_long at_i at_j at_p =
        let same : p ≡ j = grind (arith, nat_tests, f) in
        let left : exchange (a + i) (a + j) (a + p) ≡ a + i = grind (arith, nat_tests, same, other) in
        left ∙ sym (ap (λ (q : ℕ). get_or (set (set xs i (get_or xs j 0)) j (get_or xs i 0)) q d) same ∙ (get_or-set_same (set xs i (get_or xs j 0)) j (get_or xs i 0) d (omega (arith, k, one_long)) ∙ at_i))
    by_place xs one p d true false e f p_in long one_long at_i at_j at_p =
        let same : p ≡ i = grind (arith, nat_tests, e) in
        let left : exchange (a + i) (a + j) (a + p) ≡ a + j = grind (arith, nat_tests, same) in
        let apart : p ≢ j = grind (arith, nat_tests, f) in
        left ∙ sym (get_or-set_other (set xs i (get_or xs j 0)) j p (get_or xs i 0) d apart ∙ (ap (λ (q : ℕ). get_or (set xs i (get_or xs j 0)) q d) same ∙ (get_or-set_same xs i (get_or xs j 0) d (omega (arith, h, long)) ∙ at_j)))
    by_place xs one p d false false e f p_in long one_long at_i at_j at_p =
        let not_i : p ≢ i = grind (arith, nat_tests, e) in
        let not_j : p ≢ j = grind (arith, nat_tests, f) in
        let left : exchange (a + i) (a + j) (a + p) ≡ a + p = grind (arith, nat_tests, not_i, not_j) in
        left ∙ sym (get_or-set_other (set xs i (get_or xs j 0)) j p (get_or xs i 0) d not_j ∙ (get_or-set_other xs i p (get_or xs j 0) d not_i ∙ at_p))

-- t and u of one contest exchanged
pub exchange_structural : (contests : List Contest) (c t u : ℕ) → IsOf contests c t
    → IsOf contests c u → t ≢ u → IsStructural contests (exchange t u) (λ e. e)
exchange_structural contests c t u a b other = record {
  within = λ e h. h;
  shape = λ e h. refl;
  targets = λ e h. by_contest e (e == c) refl h;
  contest = λ v h. by_target v (v == t) (v == u) refl refl;
}
  where
    by_contest : (e : ℕ) (x : Bool) → (e == c) ≡ x → e < length contests
        → IsPermutation (targets_of contests e) (map (exchange t u) (targets_of contests e))
    by_contest e true is h =
        let same : e ≡ c = grind (arith, nat_tests, is) in
        let next = first_next contests c a.contest in
        let to_t : first_target contests c + (t - first_target contests c) ≡ t = omega (arith, a.from) in
        let to_u : first_target contests c + (u - first_target contests c) ≡ u = omega (arith, b.from) in
        let at_c = exchanged_range (first_target contests c) (contest_at contests c).targets (t - first_target contests c) (u - first_target contests c) (omega (arith, a.from, a.to, next)) (omega (arith, b.from, b.to, next)) (λ e. other (sym to_t ∙ (ap (λ (x : ℕ). first_target contests c + x) e ∙ to_u))) in
        subst (λ (x : ℕ). IsPermutation (targets_of contests x) (map (exchange t u) (targets_of contests x))) (sym same)
        (subst (λ (x : ℕ). IsPermutation (targets_of contests c) (map (exchange t x) (targets_of contests c))) to_u
        (subst (λ (x : ℕ). IsPermutation (targets_of contests c) (map (exchange x (first_target contests c + (u - first_target contests c))) (targets_of contests c))) to_t at_c))
    by_contest e false is h =
        let differs : e ≡ c → ⊥ = grind (arith, nat_tests, is) in
        same_permutation (targets_of contests e) (map (exchange t u) (targets_of contests e))
        (range_moved (exchange t u) (first_target contests e) (first_target contests e) (contest_at contests e).targets
        (λ i lt.
        let here = nth_is_of contests e i h lt in
        let not_t : first_target contests e + i ≡ t → ⊥ = λ q. differs (of_one contests e c t (subst (IsOf contests e) q here) a) in
        let not_u : first_target contests e + i ≡ u → ⊥ = λ q. differs (of_one contests e c u (subst (IsOf contests e) q here) b) in
        grind (arith, nat_tests, not_t, not_u)))

    by_target : (v : ℕ) (x y : Bool) → (v == t) ≡ x → (v == u) ≡ y
        → contest_of contests (cond (v == t) u (cond (v == u) t v)) ≡ contest_of contests v
    by_target v true y e f =
        let same : v ≡ t = grind (arith, nat_tests, e) in
        ap (λ (x : Bool). contest_of contests (cond x u (cond (v == u) t v))) e ∙ (contest_is contests c u b ∙ (sym (contest_is contests c t a) ∙ ap (contest_of contests) (sym same)))
    by_target v false true e f =
        let same : v ≡ u = grind (arith, nat_tests, f) in
        (λ i. contest_of contests (cond (e i) u (cond (f i) t v))) ∙ (contest_is contests c t a ∙ (sym (contest_is contests c u b) ∙ ap (contest_of contests) (sym same)))
    by_target v false false e f = λ i. contest_of contests (cond (e i) u (cond (f i) t v))

-- in a robust deck the totals of one contest differ
pub totals_differ : (contests : List Contest) (deck : List (List Bool)) (c t u : ℕ)
    → IsRobust contests deck → Fits (target_count contests) deck → IsOf contests c t
    → IsOf contests c u → t ≢ u → own_total contests deck t ≡ own_total contests deck u → ⊥
totals_differ contests deck c t u robust fits a b other equal =
    let t_in : t < target_count contests = omega (arith, a.to, first_le contests (c + 1)) in
    let u_in : u < target_count contests = omega (arith, b.to, first_le contests (c + 1)) in
    let moved : exchange t u t ≡ u = grind (arith, nat_tests) in
    other (sym (structural_stays contests deck (exchange t u) (exchange t u) (λ e. e) robust fits (exchange_turn (target_count contests) t u t_in u_in) (exchange_structural contests c t u a b other)
    (λ v h. by_test v (v == t) (v == u) refl refl) t t_in) ∙ moved)
  where
    by_test : (v : ℕ) (x y : Bool) → (v == t) ≡ x → (v == u) ≡ y
        → own_total contests deck (cond (v == t) u (cond (v == u) t v)) ≡ own_total contests deck v
    by_test v true y e f =
        let same : v ≡ t = grind (arith, nat_tests, e) in
        ap (λ (x : Bool). own_total contests deck (cond x u (cond (v == u) t v))) e ∙ (sym equal ∙ ap (own_total contests deck) (sym same))
    by_test v false true e f =
        let same : v ≡ u = grind (arith, nat_tests, f) in
        (λ i. own_total contests deck (cond (e i) u (cond (f i) t v))) ∙ (equal ∙ ap (own_total contests deck) (sym same))
    by_test v false false e f = λ i. own_total contests deck (cond (e i) u (cond (f i) t v))

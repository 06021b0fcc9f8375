-- Marks counted by contests and by targets.
use Rattle.std.proofs.Common.{◌≡◌, ◌≤◌, ◌<◌, ◌+◌, ◌-◌, ◌&&◌, inl, inr, ℕ, zero, suc, Bool, true, false, List, length, take, drop, get_or, cond, count_by, sum_by, refl, ap, sym, subst, ◌∙◌, arith, length-drop}
use Rattle.std.specs.Prelude.{slice_range, if◌then◌else◌}
use Rattle.std.specs.List.{range_with_len}
use Rattle.std.proofs.lemmas.List.{get_or-drop, get_or_past, take_all}
use Rattle.std.proofs.lemmas.List.Sums.{sum_by-take-le, sum_by_more}
use Rattle.std.proofs.lemmas.Bool.{cases_lt}
use Rattle.lat_base.specs.declared.contest.Contest.{Contest}
use Rattle.lat_base.specs.Shape.{target_count, first_target, contest_at, contest_of, no_contest}
use Rattle.lat_base.specs.Tally.{is_marked, mark_count}
use Rattle.lemmas.proofs.Ranges.{count_more, sum_more}
use Rattle.readings.proofs.Places.{contest_is}

next_is : (c : ℕ) → c + 1 ≡ suc c
next_is c = omega arith

-- a slice with one more mark
pub slice_more : (xs : List Bool) (a t : ℕ) → a ≤ t → t < length xs
    → count_by (λ m. m) (slice_range xs a (t + 1))
    ≡ count_by (λ m. m) (slice_range xs a t) + cond (get_or xs t false) 1 0
slice_more xs a t le lt =
    let one : t + 1 - a ≡ (t - a) + 1 = omega arith in
    let back : a + (t - a) ≡ t = omega arith in
    ap (λ (n : ℕ). count_by (λ (m : Bool). m) (take n (drop a xs))) one
    ∙ sum_by_more (λ (m : Bool). cond m 1 0) (drop a xs) (t - a) false (omega (arith, length-drop a xs))
    ∙ ap (λ (m : Bool). count_by (λ (m : Bool). m) (take (t - a) (drop a xs)) + cond m 1 0) (get_or-drop a xs (t - a) false ∙ ap (λ (n : ℕ). get_or xs n false) back)

one_of : (x y : Bool) (n m : ℕ) → m ≡ n + cond x 1 0 → ◌≡◌ {A = ℕ} ((if y then n else 0) + cond (x && y) 1 0) (if y then m else 0)
one_of true true n m h = omega arith
one_of true false n m h = refl
one_of false true n m h = omega arith
one_of false false n m h = refl

in_contest : (contests : List Contest) (r : List Bool) (p : ℕ → Bool) (c j : ℕ)
    → length r ≡ target_count contests → c < length contests
    → first_target contests c + j ≤ first_target contests (suc c)
    → count_by (λ u. is_marked r u && p (contest_of contests u))
    (range_with_len 0 (first_target contests c + j))
    ≡ count_by (λ u. is_marked r u && p (contest_of contests u)) (range_with_len 0 (first_target contests c)) + (if p c then count_by (λ m. m) (slice_range r (first_target contests c) (first_target contests c + j)) else 0)
in_contest contests r p c zero long lt le =
    let a : ℕ = first_target contests c in
    let here : first_target contests c + 0 ≡ first_target contests c = omega arith in
    let none : count_by (λ m. m) (slice_range r (first_target contests c) (first_target contests c + 0)) ≡ 0 =
    ap (λ (n : ℕ). count_by (λ (m : Bool). m) (take n (drop (first_target contests c) r))) (let z : first_target contests c + 0 - first_target contests c ≡ 0 = omega arith in z) in
    omega (arith, ap (λ (n : ℕ). count_by (λ u. is_marked r u && p (contest_of contests u)) (range_with_len 0 n)) here, if_zero (p c) none)
  where
    if_zero : (b : Bool) {n : ℕ} → n ≡ 0 → ◌≡◌ {A = ℕ} (if b then n else 0) 0
    if_zero true h = h
    if_zero false h = refl
in_contest contests r p c (suc j) long lt le =
    let a : ℕ = first_target contests c in
    let within : first_target contests (suc c) ≤ target_count contests = sum_by-take-le (λ (x : Contest). x.targets) contests (suc c) in
    let t_in : first_target contests c + j < length r = omega (arith, long, within, le) in
    let is : contest_of contests (first_target contests c + j) ≡ c = contest_is contests c (first_target contests c + j) (record { contest = lt; from = omega arith; to = omega (arith, le, ap (first_target contests) (next_is c)) }) in
    let next : first_target contests c + suc j ≡ first_target contests c + j + 1 = omega arith in
    let more = count_more (λ u. is_marked r u && p (contest_of contests u)) (first_target contests c + j) in
    let here : ◌≡◌ {A = ℕ} (cond (is_marked r (first_target contests c + j) && p (contest_of contests (first_target contests c + j))) 1 0) (cond (is_marked r (first_target contests c + j) && p c) 1 0) =
    ap (λ (k : ℕ). cond (is_marked r (first_target contests c + j) && p k) 1 0) is in
    let rest = in_contest contests r p c j long lt (omega (arith, le)) in
    let step = one_of (is_marked r (first_target contests c + j)) (p c) (count_by (λ m. m) (slice_range r (first_target contests c) (first_target contests c + j)))
    (count_by (λ m. m) (slice_range r (first_target contests c) (first_target contests c + j + 1))) (slice_more r (first_target contests c) (first_target contests c + j) (omega arith) t_in) in
    subst (λ (n : ℕ). count_by (λ u. is_marked r u && p (contest_of contests u)) (range_with_len 0 n)
    ≡ count_by (λ u. is_marked r u && p (contest_of contests u)) (range_with_len 0 (first_target contests c)) + (if p c then count_by (λ m. m) (slice_range r (first_target contests c) n) else 0)) (sym next)
    (omega (arith, more, here, rest, step))

-- marks by contests are marks by targets
grouped_to : (contests : List Contest) (r : List Bool) (p : ℕ → Bool) (n : ℕ)
    → length r ≡ target_count contests → n ≤ length contests
    → sum_by (λ c. if p c then mark_count contests r c else 0) (range_with_len 0 n)
    ≡ count_by (λ u. is_marked r u && p (contest_of contests u))
    (range_with_len 0 (first_target contests n))
grouped_to contests r p zero long le = refl
grouped_to contests r p (suc n) long le =
    let next : n + 1 ≡ suc n = omega arith in
    let f : ℕ → ℕ = λ c. if p c then mark_count contests r c else 0 in
    let more = sum_more (λ c. if p c then mark_count contests r c else 0) n in
    let rest = grouped_to contests r p n long (omega arith) in
    let rise : first_target contests (n + 1) ≡ first_target contests n + (contest_at contests n).targets = sum_by_more (λ (x : Contest). x.targets) contests n no_contest (omega arith) in
    let as_suc : first_target contests (n + 1) ≡ first_target contests (suc n) = ap (first_target contests) next in
    let whole = in_contest contests r p n (contest_at contests n).targets long (omega arith) (omega (arith, rise, as_suc)) in
    let ends = subst (λ (k : ℕ). count_by (λ u. is_marked r u && p (contest_of contests u)) (range_with_len 0 k)
    ≡ count_by (λ u. is_marked r u && p (contest_of contests u)) (range_with_len 0 (first_target contests n)) + (if p n then count_by (λ m. m) (slice_range r (first_target contests n) k) else 0)) (sym rise) whole in
    subst (λ (k : ℕ). sum_by (λ c. if p c then mark_count contests r c else 0) (range_with_len 0 k) ≡ count_by (λ u. is_marked r u && p (contest_of contests u)) (range_with_len 0 (first_target contests k))) next
    (omega (arith, more, rest, ends))

pub grouped : (contests : List Contest) (r : List Bool) (p : ℕ → Bool)
    → length r ≡ target_count contests
    → sum_by (λ c. if p c then mark_count contests r c else 0) (range_with_len 0 (length contests))
    ≡ count_by (λ u. is_marked r u && p (contest_of contests u))
    (range_with_len 0 (target_count contests))
grouped contests r p long =
    let whole : first_target contests (length contests) ≡ target_count contests = ap (sum_by (λ (x : Contest). x.targets)) (take_all (length contests) contests (omega arith)) in
    grouped_to contests r p (length contests) long (omega arith) ∙ ap (λ (n : ℕ). count_by (λ u. is_marked r u && p (contest_of contests u)) (range_with_len 0 n)) whole

-- the marks of a ballot at the first n targets
pub range_marks : (b : List Bool) (n : ℕ)
    → count_by (λ u. is_marked b u) (range_with_len 0 n) ≡ count_by (λ m. m) (take n b)
range_marks b zero = refl
range_marks b (suc n) = elim (cases_lt n (length b)) [
  | inl lt ↦
      let next : n + 1 ≡ suc n = omega arith in
      subst (λ (k : ℕ). count_by (λ u. is_marked b u) (range_with_len 0 k) ≡ count_by (λ m. m) (take k b)) next
      (omega (arith, count_more (λ u. is_marked b u) n, range_marks b n, sum_by_more (λ (m : Bool). cond m 1 0) b n false lt))
  | inr ge ↦
      let next : n + 1 ≡ suc n = omega arith in
      let none : ◌≡◌ {A = ℕ} (cond (is_marked b n) 1 0) 0 = ap (λ (m : Bool). cond m 1 0) (get_or_past b n false ge) in
      let before : count_by (λ m. m) (take n b) ≡ count_by (λ m. m) b = ap (count_by (λ (m : Bool). m)) (take_all n b ge) in
      let after : count_by (λ m. m) (take (n + 1) b) ≡ count_by (λ m. m) b = ap (count_by (λ (m : Bool). m)) (take_all (n + 1) b (omega arith)) in
      subst (λ (k : ℕ). count_by (λ u. is_marked b u) (range_with_len 0 k) ≡ count_by (λ m. m) (take k b)) next
      (omega (arith, count_more (λ u. is_marked b u) n, range_marks b n, none, before, after))
]

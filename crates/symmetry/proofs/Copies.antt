-- Ballots that stand in a deck several times, and ballots that are marked everywhere or nowhere.
use Rattle.std.proofs.Common.{◌≡◌, ◌+◌, ◌*◌, ◌<◌, ◌&&◌, ℕ, Bool, true, false, not, List, [], ◌∷◌, length, replicate, cond, count_by, refl, ap, ◌∙◌, arith}
use Rattle.std.proofs.lemmas.Bool.{lt-ltb}
use Rattle.std.proofs.lemmas.List.{length-replicate, get_or-replicate}
use Rattle.std.proofs.lemmas.List.Elements.{All-replicate}
use Rattle.std.proofs.lemmas.List.Folds.{sum_by-replicate}
use Rattle.std.proofs.lemmas.List.FromFn.{get_or-range_with_len, length-range_with_len}
use Rattle.std.proofs.lemmas.List.Sums.{sum_by-cons, list_all-from_AllPass}
use Rattle.lat_base.specs.declared.contest.Contest.{Contest}
use Rattle.lat_base.specs.Rules.{is_blank}
use Rattle.lat_base.specs.Shape.{target_count, first_target, contest_at, contest_of, CanOvervote}
use Rattle.lat_base.specs.Tally.{is_marked, mark_count, is_overvoted, votes_for}
use Rattle.readings.specs.Structural.{targets_of}
use Rattle.lemmas.proofs.Counting.{count_alike, count_map}
use Rattle.readings.proofs.Marks.{marks_are}
use Rattle.readings.proofs.Places.{nth_within}

-- a ballot that is marked everywhere, and one that is marked nowhere
abbrev pub full : List Contest → List Bool
full contests = replicate (target_count contests) true

abbrev pub unmarked : List Contest → List Bool
unmarked contests = replicate (target_count contests) false

-- copies of a ballot that passes a test or not
pub copies_that : (f : List Bool → Bool) (n : ℕ) (b : List Bool) (t : Bool) → f b ≡ t
    → count_by f (replicate n b) ≡ n * cond t 1 0
copies_that f n b t e = sum_by-replicate (λ (x : List Bool). cond (f x) 1 0) n b ∙ ap (λ (x : Bool). n * cond x 1 0) e

pub all_copies : (f : List Bool → Bool) (n : ℕ) (b : List Bool) → f b ≡ true
    → count_by f (replicate n b) ≡ n
all_copies f n b e = omega (arith, copies_that f n b true e)

pub no_copies : (f : List Bool → Bool) (n : ℕ) (b : List Bool) → f b ≡ false
    → count_by f (replicate n b) ≡ 0
no_copies f n b e = omega (arith, copies_that f n b false e)

-- a ballot that is marked everywhere overvotes each contest that can be
all_true : (ns : List ℕ) → count_by (λ n. true) ns ≡ length ns
all_true [] = refl
all_true (n ∷ ns) = omega (arith, sum_by-cons (λ (m : ℕ). cond true 1 0) n ns, all_true ns)

pub full_marks : (contests : List Contest) (c : ℕ) → c < length contests
    → mark_count contests (full contests) c ≡ (contest_at contests c).targets
full_marks contests c h =
    let n = (contest_at contests c).targets in
    let first = first_target contests c in
    ap (count_by (λ (x : Bool). x)) (marks_are contests (full contests) c h (length-replicate (target_count contests) true))
    ∙ (count_map (is_marked (full contests)) (λ (x : Bool). x) (targets_of contests c)
    ∙ (count_alike (is_marked (full contests)) (λ t. true) (targets_of contests c)
    (λ i d lt.
    let i_in : i < n = omega (arith, lt, length-range_with_len first n) in
    ap (is_marked (full contests)) (get_or-range_with_len first n i d i_in) ∙ get_or-replicate (target_count contests) (first + i) true false (nth_within contests c i h i_in))
    ∙ (all_true (targets_of contests c) ∙ length-range_with_len first n)))

pub full_overvoted : (contests : List Contest) (c : ℕ) → c < length contests
    → CanOvervote (contest_at contests c) → is_overvoted contests (full contests) c ≡ true
full_overvoted contests c h can = lt-ltb (contest_at contests c).limit (mark_count contests (full contests) c) (omega (arith, can, full_marks contests c h))

-- it votes for all targets of a contest or for none
pub full_votes : (contests : List Contest) (t : ℕ) → t < target_count contests
    → votes_for contests (full contests) t
    ≡ not (is_overvoted contests (full contests) (contest_of contests t))
full_votes contests t h =
    let marked : is_marked (full contests) t ≡ true = get_or-replicate (target_count contests) t true false h in
    λ k. marked k && not (is_overvoted contests (full contests) (contest_of contests t))

-- and one that is marked nowhere is blank, and votes for none
pub unmarked_blank : (contests : List Contest) → is_blank (unmarked contests) ≡ true
unmarked_blank contests = list_all-from_AllPass not (unmarked contests) (All-replicate (λ (m : Bool). not m ≡ true) (target_count contests) false refl)

pub unmarked_votes : (contests : List Contest) (t : ℕ) → t < target_count contests
    → votes_for contests (unmarked contests) t ≡ false
unmarked_votes contests t h =
    let blank : is_marked (unmarked contests) t ≡ false = get_or-replicate (target_count contests) t false false h in
    λ k. blank k && not (is_overvoted contests (unmarked contests) (contest_of contests t))

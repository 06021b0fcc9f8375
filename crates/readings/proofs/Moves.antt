-- What a structural misassignment does to marks, votes and totals.
use Rattle.std.proofs.Common.{◌≡◌, ◌<◌, ◌+◌, ◌&&◌, ℕ, Bool, not, nat_lt, List, length, get_or, cond, count_by, map, ap, sym, ◌∙◌, arith}
use Rattle.std.proofs.lemmas.List.FromFn.{get_or-range_with_len, length-range_with_len}
use Rattle.std.proofs.lemmas.List.Sorted.{sum_by-IsPermutation}
use Rattle.lat_base.specs.declared.contest.Contest.{Contest}
use Rattle.lat_base.specs.Shape.{target_count, first_target, contest_at, contest_of}
use Rattle.lat_base.specs.Misassignment.{identity}
use Rattle.lat_base.specs.Tally.{is_marked, reading, mark_count, votes_for, total, own_total}
use Rattle.lat_base.specs.Deck.{Fits}
use Rattle.readings.specs.Turn.{made}
use Rattle.readings.specs.Structural.{IsStructural, targets_of}
use Rattle.lemmas.proofs.Counting.{count_alike, count_map}
use Rattle.readings.proofs.Places.{first_next, first_le, is_of}
use Rattle.readings.proofs.Made.{made_long, made_at}
use Rattle.readings.proofs.Readings.{reading_at, reading_long, reading_identity}
use Rattle.readings.proofs.Marks.{marks_are}

-- a structural misassignment moves the number of marks with the contest
pub marks_move : (contests : List Contest) (b : List Bool) (f turn : ℕ → ℕ) (c : ℕ)
    → IsStructural contests f turn → c < length contests → length b ≡ target_count contests
    → mark_count contests (reading b (made (target_count contests) f)) c
    ≡ mark_count contests b (turn c)
marks_move contests b f turn c is h long =
    let s = made (target_count contests) f in
    let read_long : length (reading b s) ≡ target_count contests = reading_long b s ∙ made_long (target_count contests) f in
    let left = ap (count_by (λ (m : Bool). m)) (marks_are contests (reading b s) c h read_long) ∙ count_map (λ (t : ℕ). is_marked (reading b s) t) (λ (m : Bool). m) (targets_of contests c) in
    let step = count_alike (λ (t : ℕ). is_marked (reading b s) t) (λ (t : ℕ). is_marked b (f t)) (targets_of contests c)
    (λ k d lt.
    let k_in : k < (contest_at contests c).targets = omega (arith, lt, length-range_with_len (first_target contests c) (contest_at contests c).targets) in
    let at : get_or (targets_of contests c) k d ≡ first_target contests c + k = get_or-range_with_len (first_target contests c) (contest_at contests c).targets k d k_in in
    let below : get_or (targets_of contests c) k d < target_count contests = omega (arith, at, k_in, first_next contests c h, first_le contests (c + 1)) in
    reading_at b s (get_or (targets_of contests c) k d) (omega (arith, below, made_long (target_count contests) f)) ∙ ap (is_marked b) (made_at (target_count contests) f (get_or (targets_of contests c) k d) below)) in
    let moved = sym (count_map f (λ (t : ℕ). is_marked b t) (targets_of contests c)) in
    let permuted = sum_by-IsPermutation (λ (t : ℕ). cond (is_marked b t) 1 0) (targets_of contests (turn c)) (map f (targets_of contests c)) (is.targets c h) in
    let right = ap (count_by (λ (m : Bool). m)) (marks_are contests b (turn c) (is.within c h) long) ∙ count_map (λ (t : ℕ). is_marked b t) (λ (m : Bool). m) (targets_of contests (turn c)) in
    left ∙ (step ∙ (moved ∙ (permuted ∙ sym right)))

-- and each vote with its target
pub votes_move : (contests : List Contest) (b : List Bool) (f turn : ℕ → ℕ) (u : ℕ)
    → IsStructural contests f turn → u < target_count contests → length b ≡ target_count contests
    → votes_for contests (reading b (made (target_count contests) f)) u ≡ votes_for contests b (f u)
votes_move contests b f turn u is h long =
    let s = made (target_count contests) f in
    let c = contest_of contests u in
    let c_in : c < length contests = (is_of contests u h).contest in
    let mark : is_marked (reading b s) u ≡ is_marked b (f u) = reading_at b s u (omega (arith, h, made_long (target_count contests) f)) ∙ ap (is_marked b) (made_at (target_count contests) f u h) in
    let counts : mark_count contests (reading b s) c ≡ mark_count contests b (contest_of contests (f u)) = marks_move contests b f turn c is c_in long ∙ ap (mark_count contests b) (sym (is.contest u h)) in
    let limits : (contest_at contests c).limit ≡ (contest_at contests (contest_of contests (f u))).limit = ap (λ (x : Contest). x.limit) (sym (is.shape c c_in) ∙ ap (contest_at contests) (sym (is.contest u h))) in
    λ i. mark i && not (nat_lt (limits i) (counts i))

-- a structural misassignment moves each total with its target
pub totals_move : (contests : List Contest) (deck : List (List Bool)) (f turn : ℕ → ℕ) (u : ℕ)
    → IsStructural contests f turn → f u < target_count contests → u < target_count contests
    → Fits (target_count contests) deck
    → total contests deck (made (target_count contests) f) u ≡ own_total contests deck (f u)
totals_move contests deck f turn u is k h fits =
    count_alike (λ (b : List Bool). votes_for contests (reading b (made (target_count contests) f)) u) (λ (b : List Bool). votes_for contests (reading b (identity (target_count contests))) (f u)) deck
    (λ j d lt. votes_move contests (get_or deck j d) f turn u is h (fits j d lt) ∙ ap (λ (r : List Bool). votes_for contests r (f u)) (sym (reading_identity (get_or deck j d) (target_count contests) (fits j d lt))))

-- Reports and their totals.
use Rattle.std.proofs.Common.{◌≡◌, ◌≤◌, ◌<◌, ◌+◌, ℕ, zero, suc, Bool, List, ◌∷◌, length, get_or, map, refl, ap, sym, ◌∙◌, arith}
use Rattle.std.specs.List.{range_with_len}
use Rattle.std.proofs.lemmas.List.{ext_get_or}
use Rattle.std.proofs.lemmas.List.FromFn.{get_or-map-range_with_len, length-map-range_with_len}
use Rattle.lat_base.specs.declared.contest.Contest.{Contest}
use Rattle.lat_base.specs.Shape.{target_count}
use Rattle.lat_base.specs.Tally.{total, report}

-- lists made by functions that agree on the numbers of a range
pub alike : (f g : ℕ → ℕ) (a n : ℕ) → ((u : ℕ) → a ≤ u → u < a + n → f u ≡ g u)
    → map f (range_with_len a n) ≡ map g (range_with_len a n)
alike f g a zero h = refl
alike f g a (suc n) h = λ i. h a (omega arith) (omega arith) i ∷ alike f g (a + 1) n (λ u low high. h u (omega arith) (omega arith)) i

-- equal totals make equal reports
pub same_report : (contests : List Contest) (deck : List (List Bool)) (s o : List ℕ)
    → ((u : ℕ) → u < target_count contests → total contests deck s u ≡ total contests deck o u)
    → report contests deck s ≡ report contests deck o
same_report contests deck s o h = alike (total contests deck s) (total contests deck o) 0 (target_count contests) (λ u low high. h u (omega (arith, high)))

-- equal reports have equal totals
pub report_same : (contests : List Contest) (deck : List (List Bool)) (s o : List ℕ) (u : ℕ)
    → u < target_count contests → report contests deck s ≡ report contests deck o
    → total contests deck s u ≡ total contests deck o u
report_same contests deck s o u h same = sym (get_or-map-range_with_len (total contests deck s) 0 (target_count contests) u u 0 h (omega arith))
    ∙ (ap (λ (r : List ℕ). get_or r u 0) same ∙ get_or-map-range_with_len (total contests deck o) 0 (target_count contests) u u 0 h (omega arith))

-- a report has a total for each target
pub report_long : (contests : List Contest) (deck : List (List Bool)) (s : List ℕ)
    → length (report contests deck s) ≡ target_count contests
report_long contests deck s = length-map-range_with_len (total contests deck s) 0 (target_count contests)

-- the total of a target stands at its place in the report
pub report_at : (contests : List Contest) (deck : List (List Bool)) (s : List ℕ) (u : ℕ)
    → u < target_count contests → get_or (report contests deck s) u 0 ≡ total contests deck s u
report_at contests deck s u lt =
    get_or-map-range_with_len (total contests deck s) 0 (target_count contests) u u 0 lt (omega arith)

-- a list that has each target's total at its place is the report
pub are_report : (contests : List Contest) (deck : List (List Bool)) (s totals : List ℕ)
    → length totals ≡ target_count contests
    → ((u : ℕ) → u < target_count contests → total contests deck s u ≡ get_or totals u 0)
    → report contests deck s ≡ totals
are_report contests deck s totals long each =
    let size = report_long contests deck s in
    ext_get_or 0 (report contests deck s) totals (size ∙ sym long) (λ u lt.
    let within : u < target_count contests = omega (arith, lt, size) in
    report_at contests deck s u within ∙ each u within)

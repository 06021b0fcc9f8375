-- The style that is drawn is within the limits.
use Rattle.std.proofs.Common.{◌≡◌, ◌<◌, ◌≤◌, ◌*◌, ◌/◌, ℕ, zero, suc, length, refl, ap, arith}
use Rattle.std.specs.List.{AllByRecursion}
use Rattle.std.proofs.lemmas.List.Elements.{All-from_recursion}
use Rattle.std.proofs.lemmas.List.Sums.{sum_by-cons}
use Rattle.std.proofs.lemmas.Nat.{mod_below}
use Rattle.lat_base.specs.declared.contest.Contest.{Contest}
use Rattle.lat_base.specs.Shape.{IsShape, target_count}
use Rattle.sample_styles.specs.Drawing.{next, drawn, contest_after, behind_contest, contests_after, count_after, style_after}

drawn_below : (n x : ℕ) → 0 < n → drawn n x < n
drawn_below n x some = mod_below (x / 65536) n some

-- so many contests are so many
contest_count : (count x : ℕ) → length (contests_after count x) ≡ count
contest_count zero x = refl
contest_count (suc count) x = ap suc (contest_count count (behind_contest x))

limits_fit : (count x : ℕ)
    → AllByRecursion (λ c. (1 ≤ c.limit) × (c.limit ≤ 64)) (contests_after count x)
limits_fit zero x = tt
limits_fit (suc count) x =
    let low = drawn_below 2 (next (next x)) (omega arith) in
    ((omega arith, omega (arith, low)), limits_fit count (behind_contest x))

counts_fit : (count x : ℕ)
    → AllByRecursion (λ c. (1 ≤ c.targets) × (c.targets ≤ 64)) (contests_after count x)
counts_fit zero x = tt
counts_fit (suc count) x =
    let low = drawn_below 4 (next x) (omega arith) in
    ((omega arith, omega (arith, low)), counts_fit count (behind_contest x))

-- each contest has at most four targets
few_targets : (count x : ℕ) → target_count (contests_after count x) ≤ count * 4
few_targets zero x = omega arith
few_targets (suc count) x =
    let low = drawn_below 4 (next x) (omega arith) in
    let rest = few_targets count (behind_contest x) in
    let more = contests_after count (behind_contest x) in
    let sum = sum_by-cons (λ (c : Contest). c.targets) (contest_after x) more in
    omega (arith, low, rest, sum)

pub style_is_shape : (x : ℕ) → IsShape (style_after x)
style_is_shape x =
    let count = count_after x in
    let low = drawn_below 3 (next x) (omega arith) in
    let long = contest_count count (next x) in
    record {
      some = omega (arith, long);
      few = omega (arith, low, long);
      limits = All-from_recursion _ (style_after x) (limits_fit count (next x));
      counts = All-from_recursion _ (style_after x) (counts_fit count (next x));
      few_targets = omega (arith, low, few_targets count (next x));
    }

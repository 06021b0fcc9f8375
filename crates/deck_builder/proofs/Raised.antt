-- How often the targets of a contest are marked: rising, and not too often.
use Rattle.std.proofs.Common.{◌≡◌, ◌+◌, ◌-◌, ◌*◌, ◌<◌, ◌≤◌, ℕ, zero, suc, Bool, true, false, min, cond, ap, arith}
use Rattle.std.specs.Prelude.{◌==◌}
use Rattle.std.specs.List.{range_with_len, sum, sum_by}
use Rattle.std.proofs.lemmas.Bool.Decides.{nat_tests}
use Rattle.std.proofs.lemmas.List.Sums.{sum_by-cons}
use Rattle.std.proofs.lemmas.Nat.{mul-le}
use Rattle.lat_base.specs.Shape.{contest_at}
use Rattle.deck_builder.specs.declared.mode.Mode.{Mode}
use Rattle.deck_builder.specs.declared.mode.Mode.TheVariants.{Filled, Least, LastFilled, Apart}
use Rattle.deck_builder.specs.Pattern.{Pattern, FitsContest, size, first_count, spare, gap, is_raised, raise, mark_total}

-- no count is raised by more than can be
raise_le : (p : Pattern) (c after : ℕ)
    → raise p c after ≤ min (gap p c) (spare p c - after * gap p c)
raise_le p c after = by_test (is_raised p.mode after)
  where
    by_test : (t : Bool) → cond t (min (gap p c) (spare p c - after * gap p c)) 0
        ≤ min (gap p c) (spare p c - after * gap p c)
    by_test true = omega arith
    by_test false = omega arith

-- the marks from target j on
sums : (p : Pattern) (c j r : ℕ) → j + r ≡ size p c
    → sum_by (mark_total p c) (range_with_len j r)
    ≤ sum (range_with_len (first_count p c + j) r) + min (spare p c) (r * gap p c)
sums p c j zero e = omega arith
sums p c j (suc r) e =
    let first = first_count p c in
    let after : size p c - 1 - j ≡ r = omega (arith, e) in
    let weight : (size p c - 1 - j) * gap p c ≡ r * gap p c = ap (λ (x : ℕ). x * gap p c) after in
    let one : suc r * gap p c ≡ r * gap p c + gap p c = omega arith in
    let next : sum (range_with_len (first + (j + 1)) r) ≡ sum (range_with_len (first + j + 1) r) =
    let at : first + (j + 1) ≡ first + j + 1 = omega arith in ap (λ (x : ℕ). sum (range_with_len x r)) at in
    omega (
      arith,
      sum_by-cons (mark_total p c) j (range_with_len (j + 1) r),
      sum_by-cons (λ (x : ℕ). x) (first + j) (range_with_len (first + j + 1) r),
      raise_le p c (size p c - 1 - j),
      weight,
      one,
      next,
      sums p c (j + 1) r (omega (arith, e)),
    )

-- no more marks than votes
pub in_votes : (p : Pattern) (c : ℕ) → FitsContest p c
    → sum_by (mark_total p c) (range_with_len 0 (size p c))
    ≤ (contest_at p.contests c).limit * p.working
in_votes p c fits =
    let at : first_count p c + 0 ≡ first_count p c = omega arith in
    omega (arith, sums p c 0 (size p c) (omega arith), ap (λ (x : ℕ). sum (range_with_len x (size p c))) at, fits.votes)

-- no target has more marks than there are working ballots, and each has the least
pub few_marks : (p : Pattern) (c i : ℕ) → FitsContest p c → i < size p c
    → mark_total p c i ≤ p.working
few_marks p c i fits lt = omega (arith, raise_le p c (size p c - 1 - i), fits.last, lt)

pub least_marks : (p : Pattern) (c i : ℕ) → p.rules.least ≤ mark_total p c i
least_marks p c i = omega arith

-- an earlier target is raised by no more
raise_falls : (p : Pattern) (c after before : ℕ) → after < before
    → raise p c before ≤ raise p c after
raise_falls p c after before lt = by_mode p.mode
  where
    weight : after * gap p c ≤ before * gap p c
    weight = mul-le after (gap p c) before (gap p c) (omega (arith, lt)) (omega arith)

    not_last : (before == 0) ≡ false
    not_last = grind (arith, nat_tests, lt)

    by_mode : (m : Mode) → cond (is_raised m before) (min (gap p c) (spare p c - before * gap p c))
        0 ≤ cond (is_raised m after) (min (gap p c) (spare p c - after * gap p c)) 0
    by_mode Filled = omega (arith, weight)
    by_mode Least = omega arith
    by_mode LastFilled = omega (arith, ap (λ (t : Bool). cond t (min (gap p c) (spare p c - before * gap p c)) 0) not_last)
    by_mode Apart = omega arith

pub marks_rise : (p : Pattern) (c i j : ℕ) → i < j → j < size p c
    → mark_total p c i < mark_total p c j
marks_rise p c i j lt within = omega (arith, lt, raise_falls p c (size p c - 1 - j) (size p c - 1 - i) (omega (arith, lt, within)))

-- the sum of numbers in a row, the last one apart
pub sum_last : (from n : ℕ) → sum (range_with_len from (suc n))
    ≡ sum (range_with_len from n) + (from + n)
sum_last from zero = omega arith
sum_last from (suc n) =
    omega (
      arith,
      sum_by-cons (λ (x : ℕ). x) from (range_with_len (from + 1) (suc n)),
      sum_by-cons (λ (x : ℕ). x) from (range_with_len (from + 1) n),
      sum_last (from + 1) n,
    )

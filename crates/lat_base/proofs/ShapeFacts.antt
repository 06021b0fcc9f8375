-- What the tests of a style show, and where its targets are.
use Rattle.std.proofs.Common.{◌≡◌, ◌≤◌, ◌+◌, ℕ, Bool, true, false, not, List, [], ◌∷◌, Option, Some, None, cond, if◌then◌else◌, is_some, length, get_or, ap, ◌∙◌, nat_lt, nat_eq, refl, arith}
use Rattle.std.specs.List.{AllByRecursion}
use Rattle.std.proofs.lemmas.List.{get_or_default, take_all}
use Rattle.std.proofs.lemmas.List.Sums.{sum_by-take-le, sum_by-cons}
use Rattle.std.proofs.lemmas.List.Elements.{All-from_recursion, All-head}
use Rattle.std.proofs.lemmas.Bool.Decides.{nat_tests}
use Rattle.lat_base.specs.declared.contest.Contest.{Contest}
use Rattle.lat_base.specs.declared.limits.TheConstants.{MOST_IN_CONTEST, MOST_VOTES}
use Rattle.lat_base.specs.declared.shape_fault.ShapeFault.{ShapeFault}
use Rattle.lat_base.specs.declared.shape_fault.ShapeFault.TheVariants.{Empty, TooManyContests, TooManyTargets}
use Rattle.lat_base.specs.Shape.{IsShape, AreFirsts, first_target, target_count}
use Rattle.lat_base.specs.ShapeFault.{contest_fault, shape_fault, is_up_to}

-- a contest's first target is at most the number of targets
pub first_target_le : (contests : List Contest) (c : ℕ)
    → first_target contests c ≤ target_count contests
first_target_le contests c = sum_by-take-le (λ x. x.targets) contests c

-- a style has a target
pub some_target : (contests : List Contest) → IsShape contests → 1 ≤ target_count contests
some_target [] is = absurd (omega (arith, is.some))
some_target (c ∷ contests) is =
    let first = All-head (λ (x : Contest). (1 ≤ x.targets) × (x.targets ≤ MOST_IN_CONTEST)) c contests is.counts in
    omega (arith, sum_by-cons (λ (x : Contest). x.targets) c contests, first.0)

-- where nothing is found, the test failed and nothing is found after it
pub nothing : {A : Type 0} (b : Bool) (x : A) (y : Option A) → cond b (Some x) y ≡ None
    → (b ≡ false) × (y ≡ None)
nothing true x y h = cc
nothing false x y h = (refl, h)

up_to_fits : (most n : ℕ) → not (is_up_to most n) ≡ false → (1 ≤ n) × (n ≤ most)
up_to_fits most n h = (grind (arith, nat_tests), grind (arith, nat_tests))

limits_fit : (i : ℕ) (contests : List Contest) → contest_fault i contests ≡ None
    → AllByRecursion (λ c. (1 ≤ c.limit) × (c.limit ≤ MOST_VOTES)) contests
    × AllByRecursion (λ c. (1 ≤ c.targets) × (c.targets ≤ MOST_IN_CONTEST)) contests
limits_fit i [] h = (tt, tt)
limits_fit i (c ∷ contests) h =
    let a = nothing _ _ _ h in
    let b = nothing _ _ _ a.1 in
    let more = limits_fit (i + 1) contests b.1 in
    ((up_to_fits MOST_VOTES c.limit a.0, more.0), (up_to_fits MOST_IN_CONTEST c.targets b.0, more.1))

neither : {A : Type 0} (o rest : Option A) → cond (is_some o) o rest ≡ None
    → (o ≡ None) × (rest ≡ None)
neither None rest h = (refl, h)
neither (Some x) rest h = cc

abbrev too_many : List Contest → Option ShapeFault
too_many contests = if nat_lt 256 (target_count contests) then Some (TooManyTargets (target_count contests)) else None

abbrev rest : List Contest → Option ShapeFault
rest contests = if is_some (contest_fault 0 contests) then contest_fault 0 contests else too_many contests

-- contests in which nothing is wrong are a style
pub is_shape : (contests : List Contest) → shape_fault contests ≡ None → IsShape contests
is_shape contests h =
    let a = nothing (nat_eq (length contests) 0) Empty (if nat_lt 128 (length contests) then Some (TooManyContests (length contests)) else rest contests) h in
    let b = nothing (nat_lt 128 (length contests)) (TooManyContests (length contests)) (rest contests) a.1 in
    let d = neither (contest_fault 0 contests) (too_many contests) b.1 in
    let e = nothing (nat_lt 256 (target_count contests)) (TooManyTargets (target_count contests)) None d.1 in
    let fits = limits_fit 0 contests d.0 in
    let sum : target_count contests ≤ 256 = grind (arith, nat_tests, e.0) in
    let few : length contests ≤ 128 = grind (arith, nat_tests, b.0) in
    let some : 1 ≤ length contests = grind (arith, nat_tests, a.0) in
    record {
      some = some;
      few = few;
      limits = All-from_recursion _ contests fits.0;
      counts = All-from_recursion _ contests fits.1;
      few_targets = sum;
    }

-- the last of the first numbers is the number of targets, and there is one
pub firsts_end : (contests : List Contest) (firsts : List ℕ) (n x : ℕ) → AreFirsts contests firsts
    → n ≡ length contests → x ≡ get_or firsts n x → x ≡ target_count contests
firsts_end contests firsts n x are e is =
    is ∙ get_or_default firsts n x 0 (omega (arith, are.long)) ∙ are.each n (omega arith) ∙ ap target_count (take_all n contests (omega arith))

-- A style and rules within the limits have no fault.
use Rattle.std.proofs.Common.{◌≡◌, ◌≤◌, ◌+◌, ◌∷◌, ℕ, false, not, List, [], None, refl, length, nat_eq, nat_lt, arith}
use Rattle.std.specs.List.{AllByRecursion}
use Rattle.std.proofs.lemmas.Bool.{le-ltb}
use Rattle.std.proofs.lemmas.Bool.Decides.{nat_tests}
use Rattle.std.proofs.lemmas.List.Elements.{recursion_from_All}
use Rattle.lat_base.specs.declared.contest.Contest.{Contest}
use Rattle.lat_base.specs.declared.limits.TheConstants.{MOST_CONTESTS, MOST_TARGETS, MOST_IN_CONTEST, MOST_VOTES}
use Rattle.lat_base.specs.Shape.{IsShape, target_count}
use Rattle.lat_base.specs.Rules.{RuleSet, IsRuleSet, rule_fault}
use Rattle.lat_base.specs.ShapeFault.{is_up_to, contest_fault, shape_fault}

is_within : (most n : ℕ) → (1 ≤ n) × (n ≤ most) → not (is_up_to most n) ≡ false
is_within most n h = grind (arith, nat_tests)

no_contest_fault : (i : ℕ) (contests : List Contest)
    → AllByRecursion (λ c. (1 ≤ c.limit) × (c.limit ≤ MOST_VOTES)) contests
    → AllByRecursion (λ c. (1 ≤ c.targets) × (c.targets ≤ MOST_IN_CONTEST)) contests
    → contest_fault i contests ≡ None
no_contest_fault i [] limits counts = refl
no_contest_fault i (c ∷ contests) limits counts =
    rw (is_within MOST_VOTES c.limit limits.0, is_within MOST_IN_CONTEST c.targets counts.0) (no_contest_fault (i + 1) contests limits.1 counts.1)

pub no_shape_fault : (contests : List Contest) → IsShape contests → shape_fault contests ≡ None
no_shape_fault contests is =
    let some : nat_eq (length contests) 0 ≡ false = grind (arith, nat_tests) in
    let few : nat_lt MOST_CONTESTS (length contests) ≡ false = le-ltb _ _ is.few in
    let each : contest_fault 0 contests ≡ None = no_contest_fault 0 contests (recursion_from_All _ contests is.limits) (recursion_from_All _ contests is.counts) in
    let sum : nat_lt MOST_TARGETS (target_count contests) ≡ false = le-ltb _ _ is.few_targets in
    rw (some, few, each, sum) refl

pub no_rule_fault : (rules : RuleSet) → IsRuleSet rules → rule_fault rules ≡ None
no_rule_fault rules is = let least = is.least in let blank = is.blank in let over = is.over in grind (arith, nat_tests)

-- Which rule a deck breaks first.
use Rattle.std.specs.Prelude.{ℕ, ◌+◌, ◌-◌, ◌<◌, ◌==◌, ◌&&◌, Bool, List, [], ◌∷◌, length, count_by, nat_lt, if◌then◌else◌, Option, Some, None}
use Rattle.std.specs.List.{range_with_len}
use Rattle.lat_base.specs.declared.contest.Contest.{Contest}
use Rattle.lat_base.specs.Shape.{target_count, first_target, contest_at, contest_of}
use Rattle.lat_base.specs.Tally.{is_overvoted, own_total}
use Rattle.lat_base.specs.Rules.{RuleSet, is_blank}
use Rattle.lat_rules.specs.declared.broken.Broken.{Broken}
use Rattle.lat_rules.specs.declared.broken.Broken.TheVariants.{Blank, Over, Least, Equal}

-- the first, or else the second
abbrev pub or_else : Option Broken → Option Broken → Option Broken
or_else None other = other
or_else (Some broken) other = Some broken

-- what is broken at the first of these numbers at which something is
abbrev pub first_broken : (ℕ → Option Broken) → List ℕ → Option Broken
first_broken broken [] = None
first_broken broken (x ∷ xs) = or_else (broken x) (first_broken broken xs)

-- how many ballots have no mark
abbrev pub blank_count : List (List Bool) → ℕ
blank_count deck = count_by is_blank deck

-- how many ballots overvote contest c
abbrev pub over_count : List Contest → List (List Bool) → ℕ → ℕ
over_count contests deck c = count_by (λ ballot. is_overvoted contests ballot c) deck

-- too few blank ballots
abbrev pub broken_blank : RuleSet → List (List Bool) → Option Broken
broken_blank rules deck =
    if nat_lt (blank_count deck) rules.blank then Some (Blank (blank_count deck)) else None

-- contest c can be overvoted, and is on too few ballots
abbrev pub broken_over : List Contest → RuleSet → List (List Bool) → ℕ → Option Broken
broken_over contests rules deck c =
    if nat_lt (contest_at contests c).limit (contest_at contests c).targets
    && nat_lt (over_count contests deck c) rules.over
    then Some (Over c (over_count contests deck c)) else None

-- target t has too few votes
abbrev pub broken_least : List Contest → RuleSet → List (List Bool) → ℕ → Option Broken
broken_least contests rules deck t = if nat_lt (own_total contests deck t) rules.least then Some
    (Least t (own_total contests deck t)) else None

-- the targets t and u have equal totals
abbrev pub broken_pair : List Contest → List (List Bool) → ℕ → ℕ → Option Broken
broken_pair contests deck t u =
    if own_total contests deck t == own_total contests deck u
    then Some (Equal t u (own_total contests deck t)) else None

-- the targets after t in its contest
abbrev pub later_targets : List Contest → ℕ → List ℕ
later_targets contests t =
    range_with_len (t + 1) (first_target contests (contest_of contests t + 1) - (t + 1))

-- a later target of the same contest has the total of t
abbrev pub broken_equal : List Contest → List (List Bool) → ℕ → Option Broken
broken_equal contests deck t = first_broken (broken_pair contests deck t) (later_targets contests t)

-- totals of one contest that must differ and don't
abbrev pub broken_distinct : List Contest → RuleSet → List (List Bool) → Option Broken
broken_distinct contests rules deck =
    if rules.distinct then first_broken (broken_equal contests deck)
    (range_with_len 0 (target_count contests)) else None

-- the first rule that is broken: blank ballots, overvotes contest by contest, least totals target
-- by target, equal totals pair by pair
abbrev pub broken_rule : List Contest → RuleSet → List (List Bool) → Option Broken
broken_rule contests rules deck =
    or_else (broken_blank rules deck)
    (or_else (first_broken (broken_over contests rules deck) (range_with_len 0 (length contests)))
    (or_else (first_broken (broken_least contests rules deck)
    (range_with_len 0 (target_count contests)))
    (broken_distinct contests rules deck)))

-- what is broken is named by contests and targets of the style
abbrev pub IsNamed : List Contest → Broken → Type 0
IsNamed contests (Blank n) = Unit {0}
IsNamed contests (Over c n) = c < length contests
IsNamed contests (Least t n) = t < target_count contests
IsNamed contests (Equal t u n) = (t < target_count contests) × (u < target_count contests)

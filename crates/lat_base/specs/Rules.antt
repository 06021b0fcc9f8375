-- The rules that a test deck must obey.
use Rattle.std.specs.Prelude.{◌≡◌, ◌≢◌, ◌<◌, ◌≤◌, ℕ, Bool, List, length, count_by, not, IsTrue, nat_lt, if◌then◌else◌, Option, Some, None}
use Rattle.std.specs.List.{list_all}
use Rattle.lat_base.specs.declared.contest.Contest.{Contest}
use Rattle.lat_base.specs.declared.limits.TheConstants.{MOST_LEAST, MOST_BLANK, MOST_OVER}
use Rattle.lat_base.specs.declared.rules.RuleFault.{RuleFault}
use Rattle.lat_base.specs.declared.rules.RuleFault.TheVariants.{BadLeast, BadBlank, BadOver}
use Rattle.lat_base.specs.Shape.{target_count, contest_at, contest_of, CanOvervote}
use Rattle.lat_base.specs.Tally.{is_overvoted, own_total}

pub record RuleSet : Type 0 where
  pub distinct : Bool
  pub least : ℕ
  pub blank : ℕ
  pub over : ℕ

abbrev pub rule_set : Bool → ℕ → ℕ → ℕ → RuleSet
rule_set distinct least blank over =
    record { distinct = distinct; least = least; blank = blank; over = over }

-- the limits on the rules' numbers
pub record IsRuleSet (rules : RuleSet) : Type 0 where
  pub least : rules.least ≤ MOST_LEAST
  pub blank : rules.blank ≤ MOST_BLANK
  pub over : rules.over ≤ MOST_OVER

-- a ballot with no mark
abbrev pub is_blank : List Bool → Bool
is_blank ballot = list_all not ballot

-- the deck obeys the rules
pub record Obeys (contests : List Contest) (rules : RuleSet) (deck : List (List Bool))
    : Type 0 where
  -- enough ballots are blank
  pub blank : rules.blank ≤ count_by is_blank deck
  -- each contest that can be overvoted is overvoted on enough ballots
  pub over : (c : ℕ) → c < length contests → CanOvervote (contest_at contests c)
      → rules.over ≤ count_by (λ ballot. is_overvoted contests ballot c) deck
  -- each target has enough votes
  pub least : (t : ℕ) → t < target_count contests → rules.least ≤ own_total contests deck t
  -- where the rules say so, different targets of one contest have different totals
  pub distinct : IsTrue rules.distinct → (t u : ℕ) → t < u → u < target_count contests
      → contest_of contests t ≡ contest_of contests u
      → own_total contests deck t ≢ own_total contests deck u

-- the first number that is above its limit
abbrev pub rule_fault : RuleSet → Option RuleFault
rule_fault rules =
    if nat_lt MOST_LEAST rules.least then Some (BadLeast rules.least)
    else if nat_lt MOST_BLANK rules.blank then Some (BadBlank rules.blank)
    else if nat_lt MOST_OVER rules.over then Some (BadOver rules.over)
    else None

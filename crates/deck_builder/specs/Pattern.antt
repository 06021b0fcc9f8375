-- The patterns of decks that are tried.
use Rattle.std.specs.Prelude.{ℕ, ◌+◌, ◌-◌, ◌*◌, ◌/◌, ◌%◌, ◌<◌, ◌≤◌, ◌==◌, ◌&&◌, ◌++◌, Bool, true, false, if◌then◌else◌, min, List, length, map, take, replicate, count_by}
use Rattle.std.specs.List.{range_with_len, sum, sum_by, list_any}
use Rattle.lat_base.specs.declared.contest.Contest.{Contest}
use Rattle.lat_base.specs.Rules.{RuleSet}
use Rattle.lat_base.specs.Shape.{target_count, first_target, contest_at, contest_of}
use Rattle.lat_ballots.specs.Deck.{Ballots}
use Rattle.deck_builder.specs.declared.mode.Mode.{Mode}
use Rattle.deck_builder.specs.declared.mode.Mode.TheVariants.{Filled, Least, LastFilled, Apart}

-- eight patterns in a row have the same mode
abbrev pub mode_of : (turn : ℕ) → Mode
mode_of turn =
    if turn / 8 == 0 then Filled
    else if turn / 8 == 1 then Least
    else if turn / 8 == 2 then LastFilled
    else Apart

-- what a pattern is made for; `working` ballots are neither wholly marked nor blank
pub record Pattern : Type 0 where
  pub contests : List Contest
  pub rules : RuleSet
  pub working : ℕ
  pub mode : Mode
  pub step : ℕ

-- pattern number `turn` of k ballots
abbrev pub pattern : List Contest → RuleSet → (k turn : ℕ) → Pattern
pattern contests rules k turn = record {
  contests = contests;
  rules = rules;
  working = k - rules.over - rules.blank;
  mode = mode_of turn;
  step = turn % 8;
}

-- how many contests before c have its limit and number of targets
abbrev pub alike_before : List Contest → ℕ → ℕ
alike_before contests c =
    let contest = contest_at contests c in
    count_by (λ d. (d.limit == contest.limit) && (d.targets == contest.targets)) (take c contests)

-- how many contests, or targets, before contest c make its counts greater, so that no contest has
-- the counts of another of its limit and number of targets, or no target those of another
abbrev pub earlier : Mode → List Contest → ℕ → ℕ
earlier Filled contests c = alike_before contests c
earlier Least contests c = alike_before contests c
earlier LastFilled contests c = alike_before contests c
earlier Apart contests c = first_target contests c

-- how many targets contest c has
abbrev pub size : Pattern → ℕ → ℕ
size p c = (contest_at p.contests c).targets

-- the count of the first target of contest c before any is raised; each next target has one more
abbrev pub first_count : Pattern → ℕ → ℕ
first_count p c = p.rules.least + earlier p.mode p.contests c

-- how many votes contest c can have on the working ballots, and how many it has before any count is
-- raised
abbrev pub votes : Pattern → ℕ → ℕ
votes p c = (contest_at p.contests c).limit * p.working

abbrev pub least_sum : Pattern → ℕ → ℕ
least_sum p c = sum (range_with_len (first_count p c) (size p c))

-- how many votes are left in contest c
abbrev pub spare : Pattern → ℕ → ℕ
spare p c = votes p c - least_sum p c

-- how far each count can be raised: the last to the number of working ballots, each other to one
-- less than the next
abbrev pub gap : Pattern → ℕ → ℕ
gap p c = p.working + 1 - first_count p c - size p c

-- whether the count of a target is raised after which so many of its contest come
abbrev pub is_raised : Mode → (after : ℕ) → Bool
is_raised Filled after = true
is_raised Least after = false
is_raised LastFilled after = after == 0
is_raised Apart after = false

-- by how much it is raised: from the last target down, each as far as it can be while votes are
-- left
abbrev pub raise : Pattern → (c after : ℕ) → ℕ
raise p c after = if is_raised p.mode after then min (gap p c) (spare p c - after * gap p c) else 0

-- how often target i of contest c is marked
abbrev pub mark_total : Pattern → (c i : ℕ) → ℕ
mark_total p c i = first_count p c + i + raise p c (size p c - 1 - i)

-- marks are laid on places, going round: place q is on working ballot q % working. Those of contest
-- c begin at place (step + 1) * c, and those of target i after those of the targets before
abbrev pub place : Pattern → (c i : ℕ) → ℕ
place p c i = (p.step + 1) * c + sum_by (mark_total p c) (range_with_len 0 i)

-- whether one of the marks that are laid from place `first` on, one on each, is on ballot b
abbrev pub is_laid : (ballots first marks b : ℕ) → Bool
is_laid ballots first marks b = list_any (λ q. b == q % ballots) (range_with_len first marks)

-- whether working ballot b marks target i of contest c
abbrev pub has_mark : Pattern → (b c i : ℕ) → Bool
has_mark p b c i = is_laid p.working (place p c i) (mark_total p c i) b

-- working ballot b
abbrev pub working_ballot : Pattern → ℕ → List Bool
working_ballot p b =
    map (λ t. let c = contest_of p.contests t in has_mark p b c (t - first_target p.contests c))
    (range_with_len 0 (target_count p.contests))

-- the ballots: wholly marked ones, the working ones, blank ones
abbrev pub pattern_ballots : Pattern → List (List Bool)
pattern_ballots p =
    replicate p.rules.over (replicate (target_count p.contests) true)
    ++ map (working_ballot p) (range_with_len 0 p.working)
    ++ replicate p.rules.blank (replicate (target_count p.contests) false)

abbrev pub pattern_deck : Pattern → Ballots
pattern_deck p = record { targets = target_count p.contests; ballots = pattern_ballots p }

-- in contest c the last count is at most the working ballots, and there are votes for all
pub record FitsContest (p : Pattern) (c : ℕ) : Type 0 where
  pub last : first_count p c + size p c ≤ p.working + 1
  pub votes : least_sum p c ≤ votes p c

abbrev pub Fits : Pattern → Type 0
Fits p = (c : ℕ) → c < length p.contests → FitsContest p c

-- there is a pattern of that number, and it fits k ballots
pub record CanPropose (contests : List Contest) (rules : RuleSet) (k turn : ℕ) : Type 0 where
  pub known : turn < 32
  pub apart : rules.over + rules.blank ≤ k
  pub fits : Fits (pattern contests rules k turn)

-- The plain deck: a robust deck for every style, at the cost of many ballots.
use Rattle.std.specs.Prelude.{ℕ, ◌+◌, ◌-◌, ◌*◌, ◌/◌, ◌++◌, Bool, true, false, List, replicate, slice_set}
use Rattle.std.specs.List.{flat_map, range_with_len}
use Rattle.lat_base.specs.Rules.{RuleSet}
use Rattle.lat_ballots.specs.Deck.{Ballots}

-- a ballot of so many targets that marks only target t
abbrev pub only : ℕ → ℕ → List Bool
only targets t = slice_set (replicate targets false) t true

-- the ballots that mark only target t: one more than for the target before
abbrev pub only_ballots : ℕ → RuleSet → ℕ → List (List Bool)
only_ballots targets rules t = replicate (t + 1 + (rules.least - 1)) (only targets t)

-- wholly marked ballots, then for each target in order those that mark it alone, then blank ones
abbrev pub plain_ballots : ℕ → RuleSet → Ballots
plain_ballots targets rules = record {
  targets = targets;
  ballots = replicate rules.over (replicate targets true)
      ++ flat_map (only_ballots targets rules) (range_with_len 0 targets)
      ++ replicate rules.blank (replicate targets false);
}

-- how many ballots that are
abbrev pub plain_size : ℕ → RuleSet → ℕ
plain_size targets rules =
    targets * (targets + 1) / 2 + targets * (rules.least - 1) + rules.over + rules.blank

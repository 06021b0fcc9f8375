-- A ballot style as a list of contests. Targets are numbered from 0, contest by contest.
use Rattle.std.specs.Prelude.{◌≡◌, ℕ, suc, ◌+◌, ◌-◌, ◌<◌, ◌≤◌, List, [], ◌∷◌, length, take, get_or, slice_index, sum_by, All, nat_lt, if◌then◌else◌}
use Rattle.lat_base.specs.declared.contest.Contest.{Contest}
use Rattle.lat_base.specs.declared.limits.TheConstants.{MOST_CONTESTS, MOST_TARGETS, MOST_IN_CONTEST, MOST_VOTES}

-- how many targets the contests have together
abbrev pub target_count : List Contest → ℕ
target_count contests = sum_by (λ c. c.targets) contests

-- how many targets stand before contest c: the number of its first target
abbrev pub first_target : List Contest → ℕ → ℕ
first_target contests c = target_count (take c contests)

-- a contest of no target, in the place of one past the end
abbrev pub no_contest : Contest
no_contest = record { limit = 0; targets = 0 }

-- contest number c
abbrev pub contest_at : List Contest → ℕ → Contest
contest_at contests c = get_or contests c no_contest

-- the number of the contest that target t is of
abbrev pub contest_of : List Contest → ℕ → ℕ
contest_of [] t = 0
contest_of (c ∷ contests) t =
    if nat_lt t c.targets then 0 else suc (contest_of contests (t - c.targets))

-- a contest with more targets than votes: only such a one can be overvoted
abbrev pub CanOvervote : Contest → Type 0
CanOvervote c = c.limit < c.targets

-- the limits on a style
pub record IsShape (contests : List Contest) : Type 0 where
  pub some : 0 < length contests
  pub few : length contests ≤ MOST_CONTESTS
  pub limits : All (λ c. (1 ≤ c.limit) × (c.limit ≤ MOST_VOTES)) contests
  pub counts : All (λ c. (1 ≤ c.targets) × (c.targets ≤ MOST_IN_CONTEST)) contests
  pub few_targets : target_count contests ≤ MOST_TARGETS

-- the number of the first target of each contest, and of one more
pub record AreFirsts (contests : List Contest) (firsts : List ℕ) : Type 0 where
  pub long : length firsts ≡ length contests + 1
  pub each : (c : ℕ) → c ≤ length contests → slice_index firsts c ≡ first_target contests c

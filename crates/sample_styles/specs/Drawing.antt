-- Ballot styles that a generator of numbers gives. It has a number x; a draw goes on to the next.
use Rattle.std.specs.Prelude.{ℕ, zero, suc, ◌+◌, ◌*◌, ◌/◌, ◌%◌, List, [], ◌∷◌}
use Rattle.lat_base.specs.declared.contest.Contest.{Contest}

-- the generator's number, and how many styles were made
pub record Drawing : Type 0 where
  pub x : ℕ
  pub made : ℕ

-- the number after x
abbrev pub next : ℕ → ℕ
next x = (x * 1103515245 + 12345) % 2147483648

-- what a draw below n gives that went on to x
abbrev pub drawn : ℕ → ℕ → ℕ
drawn n x = x / 65536 % n

-- the contest that is drawn after x: first its targets, 1 to 4, and then its limit, 1 or 2
abbrev pub contest_after : ℕ → Contest
contest_after x = record { limit = 1 + drawn 2 (next (next x)); targets = 1 + drawn 4 (next x) }

-- the number behind that contest
abbrev pub behind_contest : ℕ → ℕ
behind_contest x = next (next x)

-- so many contests, the first of them drawn after x
abbrev pub contests_after : ℕ → ℕ → List Contest
contests_after zero x = []
contests_after (suc count) x = contest_after x ∷ contests_after count (behind_contest x)

-- the number behind so many contests
abbrev pub behind_contests : ℕ → ℕ → ℕ
behind_contests zero x = x
behind_contests (suc count) x = behind_contests count (behind_contest x)

-- how many contests the style has that is drawn after x: 1 to 3
abbrev pub count_after : ℕ → ℕ
count_after x = 1 + drawn 3 (next x)

-- the style that is drawn after x: first how many contests it has, and then each of them
abbrev pub style_after : ℕ → List Contest
style_after x = contests_after (count_after x) (next x)

-- the number behind that style
abbrev pub behind_style : ℕ → ℕ
behind_style x = behind_contests (count_after x) (next x)

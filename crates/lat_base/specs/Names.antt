-- The names of a style, its contests and their targets.
use Rattle.std.specs.Prelude.{◌≡◌, ◌||◌, ◌<◌, ◌++◌, ℕ, Bool, false, List, [], ◌∷◌, length, get_or, map, All}
use Rattle.std.specs.List.{list_any}
use Rattle.std.specs.Str.{bytes_eq}
use Rattle.lat_base.specs.declared.contest.Contest.{Contest}
use Rattle.lat_base.specs.declared.contest_names.ContestNames.{ContestNames}
use Rattle.lat_base.specs.Shape.{contest_at}

-- the id of a style, and the names of its contests in order
pub record StyleNames : Type 0 where
  pub style : List ℕ
  pub contests : List ContestNames

-- the names with those of one more contest at the end
abbrev pub with_contest : StyleNames → List ℕ → List (List ℕ) → StyleNames
with_contest names id targets =
    record names { contests = names.contests ++ record { id = id; targets = targets } ∷ [] }

-- whether an id stands twice
abbrev pub has_twice : List (List ℕ) → Bool
has_twice [] = false
has_twice (id ∷ ids) = list_any (bytes_eq id) ids || has_twice ids

-- the contests' ids
abbrev pub contest_ids : List ContestNames → List (List ℕ)
contest_ids contests = map (λ c. c.id) contests

-- no contest's id stands twice, and no target's id within a contest
pub record AreNames (contests : List ContestNames) : Type 0 where
  pub ids : has_twice (contest_ids contests) ≡ false
  pub targets : All (λ c. has_twice c.targets ≡ false) contests

abbrev pub no_names : ContestNames
no_names = record { id = []; targets = [] }

-- the names of contest number c
abbrev pub names_at : List ContestNames → ℕ → ContestNames
names_at contests c = get_or contests c no_names

-- whether a contest's names can't be added: its id is there, or a target's id stands twice
abbrev pub is_repeated : List ContestNames → List ℕ → List (List ℕ) → Bool
is_repeated contests id targets = list_any (λ c. bytes_eq id c.id) contests || has_twice targets

-- names for as many contests as a style has, and for as many targets in each
pub record NamesFit (names : List ContestNames) (contests : List Contest) : Type 0 where
  pub count : length names ≡ length contests
  pub targets : (c : ℕ) → c < length contests
      → length (names_at names c).targets ≡ (contest_at contests c).targets

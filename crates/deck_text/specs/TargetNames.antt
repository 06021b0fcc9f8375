-- The names of a style's targets. A target's id is unique only within its contest, so both ids
-- name it.
use Rattle.std.specs.Prelude.{ℕ, ◌&&◌, Bool, List, [], map, get_or, Option}
use Rattle.std.specs.List.{flat_map, position_from}
use Rattle.std.specs.Str.{bytes_eq}
use Rattle.lat_base.specs.declared.contest_names.ContestNames.{ContestNames}

-- the id of a target's contest, and its own
pub record FullName : Type 0 where
  pub contest : List ℕ
  pub target : List ℕ

-- the names of a contest's targets
abbrev pub names_in : ContestNames → List FullName
names_in c = map (λ id. record { contest = c.id; target = id }) c.targets

-- the names of all targets, in target order
abbrev pub target_names : List ContestNames → List FullName
target_names contests = flat_map names_in contests

-- two empty ids, which name no target
abbrev pub no_name : FullName
no_name = record { contest = []; target = [] }

-- the name of target t
abbrev pub name_at : List FullName → ℕ → FullName
name_at names t = get_or names t no_name

-- whether a name has these ids
abbrev pub is_called : List ℕ → List ℕ → FullName → Bool
is_called contest target name = bytes_eq name.contest contest && bytes_eq name.target target

-- the number of the target with these ids, where there is one
abbrev pub target_called : List FullName → List ℕ → List ℕ → Option ℕ
target_called names contest target = position_from (is_called contest target) 0 names

-- How a definition is kept: a style keeps the numbers of its contests.
use Rattle.std.specs.Prelude.{◌<◌, ℕ, List, [], map, length, get_or, All}
use Rattle.election_json.specs.declared.contest_entry.ContestEntry.{ContestEntry}
use Rattle.election_json.specs.declared.style_entry.StyleEntry.{StyleEntry}
use Rattle.election_json.specs.Styles.{DefinedStyle, style_with}

-- no contest, in the place of one past the end
abbrev pub no_entry : ContestEntry
no_entry = record { id = []; limit = 0; targets = [] }

-- contest number c
abbrev pub entry_at : List ContestEntry → ℕ → ContestEntry
entry_at contests c = get_or contests c no_entry

-- the style that an entry keeps
abbrev pub kept_style : List ContestEntry → StyleEntry → DefinedStyle
kept_style contests s = style_with s.id (map (entry_at contests) s.contests.items)

-- the styles that entries keep
abbrev pub kept_styles : List ContestEntry → List StyleEntry → List DefinedStyle
kept_styles contests styles = map (kept_style contests) styles

-- each number is that of a contest
abbrev pub AreWithin : List ContestEntry → List ℕ → Type 0
AreWithin contests numbers = All (λ c. c < length contests) numbers

-- a style of contests that are there
pub record IsWithin (contests : List ContestEntry) (style : StyleEntry) : Type 0 where
  pub within : AreWithin contests style.contests.items

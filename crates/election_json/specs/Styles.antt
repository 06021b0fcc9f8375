-- The ballot styles of a definition.
use Rattle.std.specs.Prelude.{ℕ, List, map, length, find, codes, nat_lt, if◌then◌else◌, Result, Ok, Err}
use Rattle.std.specs.List.{list_any}
use Rattle.std.specs.Str.{bytes_eq}
use Rattle.lat_base.specs.declared.limits.TheConstants.{MOST_CONTESTS, MOST_TARGETS}
use Rattle.serde_json.specs.Data.{Data}
use Rattle.lat_base.specs.declared.contest.Contest.{Contest}
use Rattle.lat_base.specs.declared.contest_names.ContestNames.{ContestNames}
use Rattle.lat_base.specs.Names.{StyleNames}
use Rattle.lat_base.specs.Shape.{target_count}
use Rattle.election_json.specs.declared.place.Place.{Place}
use Rattle.election_json.specs.declared.place.Place.TheVariants as at
use Rattle.election_json.specs.declared.fault.DefFault.{DefFault}
use Rattle.election_json.specs.declared.fault.DefFault.TheVariants.{Repeated, UnknownContest, TooManyTargets}
use Rattle.election_json.specs.declared.contest_entry.ContestEntry.{ContestEntry}
use Rattle.lat_base.specs.FirstFault.{◌>>=◌, or_fault}
use Rattle.election_json.specs.Member.{member, object, array, id_text, new_id}
use Rattle.election_json.specs.Entry.{each}
use Rattle.election_json.specs.Contests.{ids_of}

-- a ballot style of a definition: its names and its shape
pub record DefinedStyle : Type 0 where
  pub names : StyleNames
  pub shape : List Contest

-- the names of a contest and its targets
abbrev pub contest_names : ContestEntry → ContestNames
contest_names c = record { id = c.id; targets = c.targets }

-- the vote limit of a contest and its number of targets
abbrev pub contest_shape : ContestEntry → Contest
contest_shape c = record { limit = c.limit; targets = length c.targets }

-- the style of that id that has these contests
abbrev pub style_with : List ℕ → List ContestEntry → DefinedStyle
style_with id contests =
    record {
      names = record { style = id; contests = map contest_names contests };
      shape = map contest_shape contests;
    }

-- the ids of styles, in order
abbrev pub style_ids : List DefinedStyle → List (List ℕ)
style_ids styles = map (λ s. s.names.style) styles

-- the contest whose id an entry of a style is; it is none of the earlier ones of that style
abbrev pub chosen_contest : List ContestEntry → List (List ℕ) → Place → Data
    → Result ContestEntry DefFault
chosen_contest contests earlier place value = do
  text ← id_text place value
  contest ← or_fault (find (λ c. bytes_eq text c.id) contests) (UnknownContest place)
  if list_any (bytes_eq text) earlier then Err (Repeated place) else Ok contest

-- contest number j of style number i, after the earlier ones of that style
abbrev pub next_chosen : List ContestEntry → ℕ → ℕ → List ContestEntry → Data
    → Result ContestEntry DefFault
next_chosen contests i j earlier value =
    chosen_contest contests (ids_of earlier) (at.StyleContest i j) value

-- the style, whose contests must have at most 256 targets together
abbrev pub of_few_targets : Place → DefinedStyle → Result DefinedStyle DefFault
of_few_targets place style =
    if nat_lt MOST_TARGETS (target_count style.shape)
    then Err (TooManyTargets place (target_count style.shape)) else Ok style

-- style number i, whose id is none of the earlier ids
unfoldable pub style_entry : List ContestEntry → List (List ℕ) → ℕ → Data
    → Result DefinedStyle DefFault
style_entry contests earlier i value = do
  style ← object (at.Style i) value
  id ← member (codes "id") (at.StyleId i) style >>= new_id earlier (at.StyleId i)
  values ← member (codes "contests") (at.StyleContests i) style
      >>= array 1 MOST_CONTESTS (at.StyleContests i)
  chosen ← each (next_chosen contests i) values
  of_few_targets (at.Style i) (style_with id chosen)

-- style number i, after the earlier styles
abbrev pub next_style : List ContestEntry → ℕ → List DefinedStyle → Data
    → Result DefinedStyle DefFault
next_style contests i earlier value = style_entry contests (style_ids earlier) i value

-- the member `styles` of a definition that has these contests
unfoldable pub styles_of : List ContestEntry → Data → Result (List DefinedStyle) DefFault
styles_of contests top = do
  values ← member (codes "styles") at.Styles top >>= array 1 4096 at.Styles
  each (next_style contests) values

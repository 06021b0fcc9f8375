-- What the bytes of a definition mean, or the first fault in them.
use Rattle.std.specs.Prelude.{◌≡◌, ◌<◌, ◌≤◌, ℕ, false, List, [], length, get_or, All, if◌then◌else◌, Option, None, Result, Ok}
use Rattle.std.specs.Str.{is_utf8}
use Rattle.serde_json.specs.Data.{Data}
use Rattle.serde_json.specs.Read.{read}
use Rattle.lat_base.specs.Names.{has_twice}
use Rattle.lat_base.specs.Rules.{RuleSet, IsRuleSet}
use Rattle.election_json.specs.declared.place.Place.TheVariants as at
use Rattle.election_json.specs.declared.fault.DefFault.{DefFault}
use Rattle.election_json.specs.declared.fault.DefFault.TheVariants.{NotJson}
use Rattle.lat_base.specs.FirstFault.{◌>>=◌, or_fault}
use Rattle.election_json.specs.Member.{object}
use Rattle.election_json.specs.Rules.{rules_of}
use Rattle.election_json.specs.Contests.{contests_of}
use Rattle.election_json.specs.Styles.{DefinedStyle, style_ids, styles_of}
use Rattle.election_json.specs.Limits.{IsStyle}

-- a definition: the rules, and the names and the shape of each style, in order
pub record DefinitionValue : Type 0 where
  pub rules : RuleSet
  pub styles : List DefinedStyle

-- the definition that a JSON value says: first its rules, then its contests, then its styles
unfoldable pub definition_in : Data → Result DefinitionValue DefFault
definition_in value = do
  top ← object at.Top value
  rules ← rules_of top
  contests ← contests_of top
  styles ← styles_of contests top
  Ok (record { rules = rules; styles = styles })

-- the JSON value that the bytes spell: none where they are no text in UTF-8, and else what
-- serde_json reads
abbrev pub json_of : List ℕ → Option Data
json_of bytes = if is_utf8 bytes then read bytes else None

-- the definition that the bytes mean, or the first fault in the order of checks
abbrev pub definition_of : List ℕ → Result DefinitionValue DefFault
definition_of bytes = or_fault (json_of bytes) NotJson >>= definition_in

-- a definition within the limits: 1 to 4,096 styles, and no two of one id
pub record IsDefinition (definition : DefinitionValue) : Type 0 where
  pub ruled : IsRuleSet definition.rules
  pub some : 0 < length definition.styles
  pub few : length definition.styles ≤ 4096
  pub all : All IsStyle definition.styles
  pub once : has_twice (style_ids definition.styles) ≡ false

-- no style, in the place of one past the end
abbrev pub no_style : DefinedStyle
no_style = record { names = record { style = []; contests = [] }; shape = [] }

-- style number i
abbrev pub style_at : DefinitionValue → ℕ → DefinedStyle
style_at definition i = get_or definition.styles i no_style

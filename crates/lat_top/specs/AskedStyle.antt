-- The style that is asked for, from the bytes of a definition, or why there is none.
use Rattle.std.specs.Prelude.{ℕ, List, position, Option, Some, None, Result, Ok, Err}
use Rattle.std.specs.Str.{bytes_eq}
use Rattle.election_json.specs.declared.fault.DefFault.{DefFault}
use Rattle.election_json.specs.Definition.{DefinitionValue, definition_of, style_at}
use Rattle.lat_top.specs.declared.asked_style.AskedStyle.{AskedStyle}
use Rattle.lat_top.specs.declared.refusal.Refusal.{Refusal}
use Rattle.lat_top.specs.declared.refusal.Refusal.TheVariants as r
use Rattle.lat_top.specs.Script.{Script, ◌>>=◌, read, judge}
use Rattle.lat_top.specs.Limits.{file_limit}

-- the place of the style of that id
abbrev pub style_place : DefinitionValue → List ℕ → Option ℕ
style_place definition id = position (λ style. bytes_eq id style.names.style) definition.styles

-- style number i, under the definition's rules
abbrev pub ruled_style : DefinitionValue → ℕ → AskedStyle
ruled_style definition i = record {
  names = (style_at definition i).names;
  shape = (style_at definition i).shape;
  rules = definition.rules;
}

abbrev pub style_by_place : DefinitionValue → Option ℕ → Result AskedStyle Refusal
style_by_place definition None = Err r.NoStyle
style_by_place definition (Some i) = Ok (ruled_style definition i)

abbrev pub style_in : List ℕ → Result DefinitionValue DefFault → Result AskedStyle Refusal
style_in id (Err fault) = Err (r.Definition fault)
style_in id (Ok definition) = style_by_place definition (style_place definition id)

-- the style of that id, or the first refusal: the definition's first fault, then that no style has
-- the id
abbrev pub asked_style : List ℕ → List ℕ → Result AskedStyle Refusal
asked_style id bytes = style_in id (definition_of bytes)

-- the style of that id in a definition's file
abbrev pub style_in_file : List ℕ → List ℕ → Script AskedStyle
style_in_file name id = do
  bytes ← read name file_limit
  judge (asked_style id bytes)

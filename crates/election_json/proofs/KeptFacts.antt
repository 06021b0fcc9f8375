-- The styles that entries keep, when one is added.
use Rattle.std.proofs.Common.{◌≡◌, ◌++◌, ◌∷◌, [], List, ap, ◌∙◌}
use Rattle.std.proofs.lemmas.List.{map_push}
use Rattle.election_json.specs.declared.contest_entry.ContestEntry.{ContestEntry}
use Rattle.election_json.specs.declared.style_entry.StyleEntry.{StyleEntry}
use Rattle.election_json.specs.Styles.{DefinedStyle, style_ids}
use Rattle.election_json.specs.Kept.{kept_style, kept_styles}

pub kept_push : (contests : List ContestEntry) (styles : List StyleEntry) (s : StyleEntry)
    → kept_styles contests (styles ++ s ∷ []) ≡ kept_styles contests styles
    ++ kept_style contests s ∷ []
kept_push contests styles s = map_push (kept_style contests) styles s

pub ids_push : (contests : List ContestEntry) (styles : List StyleEntry) (s : StyleEntry)
    → style_ids (kept_styles contests (styles ++ s ∷ [])) ≡ style_ids (kept_styles contests styles)
    ++ s.id ∷ []
ids_push contests styles s =
    ap style_ids (kept_push contests styles s) ∙ map_push (λ (d : DefinedStyle). d.names.style) (kept_styles contests styles) (kept_style contests s)

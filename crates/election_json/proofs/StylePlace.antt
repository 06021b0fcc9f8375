-- The place of an id in the list of styles.
use Rattle.std.proofs.Common.{◌≡◌, ◌≢◌, ◌<◌, ◌≤◌, ℕ, Bool, true, false, cond, List, Option, Some, None, length, get_or, nat_lt, position, refl, sym, ap, subst, ◌∙◌, arith}
use Rattle.std.specs.Prelude.{All}
use Rattle.std.specs.List.{position_or_len}
use Rattle.std.specs.Str.{bytes_eq}
use Rattle.std.proofs.lemmas.Bool.{ltb-false}
use Rattle.std.proofs.lemmas.List.Sums.{fails_before_first}
use Rattle.std.proofs.lemmas.List.Quantifiers.{position-Some}
use Rattle.std.proofs.lemmas.List.{length-map, get_or-map}
use Rattle.std.proofs.lemmas.Slice.Eq.{bytes_eq-Decides}
use Rattle.election_json.specs.declared.contest_entry.ContestEntry.{ContestEntry}
use Rattle.election_json.specs.declared.style_entry.StyleEntry.{StyleEntry}
use Rattle.election_json.specs.Styles.{DefinedStyle}
use Rattle.election_json.specs.Limits.{IsStyle}
use Rattle.election_json.specs.Definition.{no_style}
use Rattle.election_json.specs.Kept.{kept_style, kept_styles}
use Rattle.election_json.proofs.Lists.{position_map}

pub kept_place : (contests : List ContestEntry) (styles : List StyleEntry) (id : List ℕ)
    → position (λ s. bytes_eq id s.id) styles
    ≡ position (λ s. bytes_eq id s.names.style) (kept_styles contests styles)
kept_place contests styles id = sym (position_map (λ (s : DefinedStyle). bytes_eq id s.names.style) (kept_style contests) styles)

pub place_is : (contests : List ContestEntry) (styles found : List StyleEntry) (text id : List ℕ)
    (place : Option ℕ) → place ≡ position (λ s. bytes_eq text s.id) found → found ≡ styles
    → text ≡ id
    → place ≡ position (λ s. bytes_eq id s.names.style) (kept_styles contests styles)
place_is contests styles found text id place h same-styles same-id =
    h ∙ (λ i. position (λ s. bytes_eq (same-id i) s.id) (same-styles i)) ∙ kept_place contests styles id

pub found_style : (styles : List DefinedStyle) (id : List ℕ) (i : ℕ)
    → position (λ s. bytes_eq id s.names.style) styles ≡ Some i
    → (i < length styles) × ((get_or styles i no_style).names.style ≡ id)
found_style styles id i h =
    let at = position-Some (λ (s : DefinedStyle). bytes_eq id s.names.style) styles i no_style h in
    (at.0, sym ((bytes_eq-Decides id (get_or styles i no_style).names.style).0 at.1))

no_place : (b : Bool) (n : ℕ) → cond b (Some n) None ≡ None → b ≡ false
no_place true n h = absurd cc
no_place false n h = refl

pub none_style : (styles : List DefinedStyle) (id : List ℕ)
    → position (λ s. bytes_eq id s.names.style) styles ≡ None → All (λ s. s.names.style ≢ id) styles
none_style styles id h k d lt e =
    let p = λ (s : DefinedStyle). bytes_eq id s.names.style in
    let past : length styles ≤ position_or_len p styles = ltb-false _ _ (no_place (nat_lt (position_or_len p styles) (length styles)) (position_or_len p styles) h) in
    let other : bytes_eq id (get_or styles k d).names.style ≡ false = fails_before_first p styles k d (omega arith) in
    let same = (bytes_eq-Decides id (get_or styles k d).names.style).1 (sym e) in
    cc

pub some_style : (styles : List DefinedStyle) (id : List ℕ) (i : ℕ)
    → position (λ s. bytes_eq id s.names.style) styles ≡ Some i
    → ¬ All (λ s. s.names.style ≢ id) styles
some_style styles id i h all = let at = found_style styles id i h in all i no_style at.0 at.1

-- style number i
pub kept_at : (contests : List ContestEntry) (styles : List StyleEntry) (i : ℕ) (s : StyleEntry)
    → i < length styles → s ≡ get_or styles i s
    → get_or (kept_styles contests styles) i no_style ≡ kept_style contests s
kept_at contests styles i s lt here =
    get_or-map (kept_style contests) styles i s no_style lt ∙ ap (kept_style contests) (sym here)

pub style_kept : (contests : List ContestEntry) (styles : List StyleEntry) (i : ℕ) (s : StyleEntry)
    → i < length styles → s ≡ get_or styles i s → All IsStyle (kept_styles contests styles)
    → IsStyle (kept_style contests s)
style_kept contests styles i s lt here all =
    subst IsStyle (kept_at contests styles i s lt here) (all i no_style (rw length-map lt))

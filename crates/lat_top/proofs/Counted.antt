-- How far many plans have come, one style more at a time.
use Rattle.std.proofs.Common.{◌≡◌, ◌<◌, ◌+◌, ◌++◌, ℕ, List, [], ◌∷◌, Option, length, take, map, get_or, refl, ap, sym, ◌∙◌, subst, inl, arith}
use Rattle.std.proofs.lemmas.List.{flat_map_more, length-append, map-append, take_more}
use Rattle.std.proofs.lemmas.List.Elements.{All-append, All-cons, All-nil}
use Rattle.std.proofs.lemmas.List.FromFn.{get_or-map-range_with_len, length-map-range_with_len}
use Rattle.std.proofs.lemmas.Grind.{flat_map-append}
use Rattle.deck_text.specs.CountyText.{count_line, counts_of}
use Rattle.deck_text.specs.ManifestText.{manifest_line}
use Rattle.election_json.specs.Definition.{DefinitionValue}
use Rattle.lat_shelf.specs.Shelf.{Files}
use Rattle.lat_top.specs.declared.asked_style.AskedStyle.{AskedStyle}
use Rattle.lat_top.specs.declared.county.County.{County}
use Rattle.lat_top.specs.declared.put.Put.{Put}
use Rattle.lat_top.specs.declared.status.Status.{Status}
use Rattle.lat_top.specs.declared.status.Status.TheVariants as s
use Rattle.lat_top.specs.AllJob.{AreFirst, IsAll, IsAllBegun, IsStylePlan, StylePlan, county_files}
use Rattle.lat_top.specs.AllJob.{found_of, ruled_styles, style_files}
use Rattle.lat_top.specs.AskedStyle.{ruled_style}
use Rattle.lat_top.specs.Counted.{Adds, BreaksAt, HoldsFirst, StopsAt}
use Rattle.lat_top.specs.County.{Found}
use Rattle.lat_top.specs.Said.{SaysOf}
use Rattle.lat_top.specs.Manifest.{manifest, manifest_name}
use Rattle.lat_top.specs.Words.{Whole}
use Rattle.lat_top.specs.Written.{Texts}
use Rattle.lat_top.specs.Writing.{FailedAt, StoppedAt, entries, files_after}
use Rattle.lat_top.proofs.Later.{failed_later, files_after-join, stopped_later, stopped_whole}
use Rattle.lat_top.proofs.Says.{says_more, says_none, says_text}
use Rattle.lat_top.proofs.Since.{behind}

founds_more : (plans : List StylePlan) (plan : StylePlan)
    → map found_of (plans ++ plan ∷ []) ≡ map found_of plans ++ found_of plan ∷ []
founds_more plans plan = map-append found_of plans (plan ∷ [])

-- the files of one plan more
files_more : (max : ℕ) (plans : List StylePlan) (plan : StylePlan)
    → county_files max plans ++ style_files max plan ≡ county_files max (plans ++ plan ∷ [])
files_more max plans plan = flat_map_more (style_files max) [] plans plan

manifest_more : (files more : List (List ℕ × List ℕ))
    → manifest files ++ manifest more ≡ manifest (files ++ more)
manifest_more files more =
    sym (flat_map-append (λ (file : List ℕ × List ℕ). manifest_line file.0 file.1) files more)

-- the plans of the first styles, and that of the next
first_more : (all : Whole) (definition : DefinitionValue) (plans : List StylePlan)
    (plan : StylePlan) → AreFirst all definition plans → length plans < length definition.styles
    → plan.style ≡ ruled_style definition (length plans)
    → IsStylePlan all plan
    → AreFirst all definition (plans ++ plan ∷ [])
first_more all definition plans plan first within style planned =
    let styles = ruled_styles definition in
    let n = length plans in
    let total = length definition.styles in
    let long : length styles ≡ total = length-map-range_with_len (ruled_style definition) 0 total in
    let inside : n < length styles = subst (λ (m : ℕ). n < m) (sym long) within in
    let here : get_or styles n plan.style ≡ plan.style =
    get_or-map-range_with_len (ruled_style definition) 0 total n n plan.style within (omega arith) ∙ sym style in
    let count : length (plans ++ plan ∷ []) ≡ n + 1 = length-append plans (plan ∷ []) in
    record {
      styles = map-append (λ (p : StylePlan). p.style) plans (plan ∷ [])
          ∙ ap (λ (ss : List AskedStyle). ss ++ plan.style ∷ []) first.styles
          ∙ ap (λ (s : AskedStyle). take n styles ++ s ∷ []) (sym here)
          ∙ sym (take_more styles n plan.style inside)
          ∙ ap (λ (m : ℕ). take m styles) (sym count);
      planned = All-append (IsStylePlan all)
          plans (plan ∷ []) first.planned
          (All-cons (IsStylePlan all) plan [] planned
          (All-nil (IsStylePlan all)));
    }

-- the plans of the first styles, and that of style number i
added_first : (all : Whole) (definition : DefinitionValue) (i : ℕ) (before after : County)
    (puts : List Put) (begin middle : Option Files) → i < length definition.styles
    → (holds : HoldsFirst all definition i before begin middle)
    → (adds : Adds all definition i before after puts)
    → AreFirst all definition (holds.plans ++ adds.next ∷ [])
added_first all definition i before after puts begin middle within holds adds =
    first_more all definition holds.plans adds.next holds.first
    (subst (λ (n : ℕ). n < length definition.styles) (sym holds.count) within)
    (adds.style ∙ ap (ruled_style definition) (sym holds.count)) adds.planned

-- the files of the first styles, and those of style number i
added_files : (all : Whole) (definition : DefinitionValue) (i : ℕ) (before after : County)
    (puts : List Put) (plans : List StylePlan) → (adds : Adds all definition i before after puts)
    → county_files all.max plans ++ entries puts
    ≡ county_files all.max (plans ++ adds.next ∷ [])
added_files all definition i before after puts plans adds =
    ap (λ (files : List (List ℕ × List ℕ)). county_files all.max plans ++ files) adds.files
    ∙ files_more all.max plans adds.next

-- one style more is planned, and its files are put
pub holds_more : (all : Whole) (definition : DefinitionValue) (i : ℕ) (before after : County)
    (puts : List Put) (begin middle end : Option Files) → i < length definition.styles
    → HoldsFirst all definition i before begin middle → Adds all definition i before after puts
    → end ≡ files_after (entries puts) middle → HoldsFirst all definition (i + 1) after begin end
holds_more all definition i before after puts begin middle end within holds adds put = record {
  plans = holds.plans ++ adds.next ∷ [];
  first = added_first all definition i before after puts begin middle within holds adds;
  count = length-append holds.plans (adds.next ∷ []) ∙ ap (λ (n : ℕ). n + 1) holds.count;
  says = subst (λ (founds : List Found). SaysOf all.max founds after)
      (sym (founds_more holds.plans adds.next))
      (says_more all.max (map found_of holds.plans) (found_of adds.next) before after holds.says adds.says);
  manifest = adds.manifest
      ∙ ap (λ (text : List ℕ). text ++ manifest (entries puts)) holds.manifest
      ∙ manifest_more (county_files all.max holds.plans) (entries puts)
      ∙ ap manifest (added_files all definition i before after puts holds.plans adds);
  files = put
      ∙ ap (files_after (entries puts)) holds.files
      ∙ sym (files_after-join (county_files all.max holds.plans) (entries puts) begin)
      ∙ ap (λ (files : List (List ℕ × List ℕ)). files_after files begin)
      (added_files all definition i before after puts holds.plans adds);
}

-- the files of one style more may be put on the way
begun_more : (all : Whole) (definition : DefinitionValue) (i : ℕ) (before after : County)
    (puts : List Put) (begin middle : Option Files) → i < length definition.styles
    → (holds : HoldsFirst all definition i before begin middle)
    → (adds : Adds all definition i before after puts)
    → IsAllBegun all definition (county_files all.max holds.plans ++ entries puts)
begun_more all definition i before after puts begin middle within holds adds = record {
  plans = holds.plans ++ adds.next ∷ [];
  first = added_first all definition i before after puts begin middle within holds adds;
  are = inl (added_files all definition i before after puts holds.plans adds);
}

-- a put of one style more failed
pub breaks_at : (all : Whole) (definition : DefinitionValue) (i : ℕ) (before after : County)
    (puts : List Put) (begin middle end : Option Files) → i < length definition.styles
    → HoldsFirst all definition i before begin middle → Adds all definition i before after puts
    → FailedAt (entries puts) middle end → BreaksAt all definition begin end
breaks_at all definition i before after puts begin middle end within holds adds h = record {
  puts = county_files all.max holds.plans ++ entries puts;
  begun = begun_more all definition i before after puts begin middle within holds adds;
  failed = failed_later (county_files all.max holds.plans) (entries puts) begin middle end holds.files h;
}

-- memory was wanting at the puts of one style more
pub stops_at : (all : Whole) (definition : DefinitionValue) (i : ℕ) (before after : County)
    (puts : List Put) (begin middle end : Option Files) → i < length definition.styles
    → HoldsFirst all definition i before begin middle → Adds all definition i before after puts
    → StoppedAt (entries puts) middle end → StopsAt all definition begin end
stops_at all definition i before after puts begin middle end within holds adds h = record {
  puts = county_files all.max holds.plans ++ entries puts;
  begun = begun_more all definition i before after puts begin middle within holds adds;
  some = stopped_later (county_files all.max holds.plans) (entries puts) begin middle end holds.files h;
}

-- memory was wanting before a put of the next style
pub stops_before : (all : Whole) (definition : DefinitionValue) (i : ℕ) (county : County)
    (begin middle : Option Files) → HoldsFirst all definition i county begin middle
    → StopsAt all definition begin middle
stops_before all definition i county begin middle holds = record {
  puts = county_files all.max holds.plans;
  begun = record { plans = holds.plans; first = holds.first; are = inl refl };
  some = stopped_whole (county_files all.max holds.plans) begin middle holds.files;
}

-- before the first style nothing is planned
pub holds_none : (all : Whole) (definition : DefinitionValue) (county : County)
    (begin : Option Files) → county.lines.items ≡ [] → county.manifest.items ≡ []
    → county.counts ≡ counts_of [] → county.status ≡ s.Done
    → HoldsFirst all definition 0 county begin begin
holds_none all definition county begin lines listed counts status = record {
  plans = [];
  first = record { styles = refl; planned = All-nil (IsStylePlan all) };
  count = refl;
  says = says_none all.max county lines counts status;
  manifest = listed;
  files = refl;
}

-- what is written last, behind the files of all styles, is the answer
pub is_all : (all : Whole) (definition : DefinitionValue) (county : County)
    (begin middle : Option Files) (status : Status) (texts : Texts)
    → (holds : HoldsFirst all definition (length definition.styles) county begin middle)
    → status ≡ county.status → texts.puts ≡ (manifest_name, county.manifest.items) ∷ []
    → texts.summary ≡ county.lines.items ++ count_line county.counts
    → IsAll all definition status (behind (county_files all.max holds.plans) texts)
is_all all definition county begin middle status texts holds status_is puts summary =
    let files = county_files all.max holds.plans in
    let says = holds.says in
    record {
      plans = holds.plans;
      first = holds.first;
      whole = holds.count;
      status_is = status_is ∙ says.status;
      puts = ap (λ (ps : List (List ℕ × List ℕ)). files ++ ps) puts
          ∙ ap (λ (bytes : List ℕ). files ++ (manifest_name, bytes) ∷ []) holds.manifest;
      summary = summary ∙ says_text all.max (map found_of holds.plans) county says;
    }

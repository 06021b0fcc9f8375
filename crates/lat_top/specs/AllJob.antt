-- The job of `all`: every style of a definition is planned, and its files are put at once.
use Rattle.std.specs.Prelude.{◌≡◌, ◌⊎◌, ◌++◌, ℕ, All, List, [], ◌∷◌, flat_map, length, map}
use Rattle.std.specs.Prelude.{take, Result, Ok, Err}
use Rattle.std.specs.List.{range_with_len}
use Rattle.election_json.specs.Definition.{DefinitionValue, definition_of}
use Rattle.election_json.specs.declared.fault.DefFault.{DefFault}
use Rattle.planner.specs.declared.answer.Answer.{Answer}
use Rattle.lat_top.specs.declared.asked_style.AskedStyle.{AskedStyle}
use Rattle.lat_top.specs.declared.refusal.Refusal.{Refusal}
use Rattle.lat_top.specs.declared.refusal.Refusal.TheVariants as r
use Rattle.lat_top.specs.declared.status.Status.{Status}
use Rattle.lat_top.specs.AskedStyle.{ruled_style}
use Rattle.lat_top.specs.County.{Found, county_status, county_text}
use Rattle.lat_top.specs.Job.{Job}
use Rattle.lat_top.specs.Limits.{file_limit}
use Rattle.lat_top.specs.Manifest.{manifest, manifest_name}
use Rattle.lat_top.specs.PlanFiles.{plan_files}
use Rattle.lat_top.specs.PlanJob.{IsPlanned}
use Rattle.lat_top.specs.Script.{Script, ◌>>=◌, judge, read}
use Rattle.lat_top.specs.Words.{Whole}
use Rattle.lat_top.specs.Written.{Texts}

-- a definition, or its first fault
abbrev pub or_definition : Result DefinitionValue DefFault → Result DefinitionValue Refusal
or_definition (Ok definition) = Ok definition
or_definition (Err fault) = Err (r.Definition fault)

-- the definition in a file
abbrev pub definition_in_file : List ℕ → Script DefinitionValue
definition_in_file name = do
  bytes ← read name file_limit
  judge (or_definition (definition_of bytes))

-- the styles of a definition, in order, under its rules
abbrev pub ruled_styles : DefinitionValue → List AskedStyle
ruled_styles definition =
    map (ruled_style definition) (range_with_len 0 (length definition.styles))

-- a style, and an answer of the planner for it
pub record StylePlan : Type 0 where
  pub style : AskedStyle
  pub answer : Answer

-- the answer is one for the style
abbrev pub IsStylePlan : Whole → StylePlan → Type 0
IsStylePlan all plan = IsPlanned all.max all.budget plan.style plan.answer

-- the first styles of a definition are planned, as many as there are plans
pub record AreFirst (all : Whole) (definition : DefinitionValue) (plans : List StylePlan) :
    Type 0 where
  pub styles : map (λ plan. plan.style) plans ≡ take (length plans) (ruled_styles definition)
  pub planned : All (IsStylePlan all) plans

-- the files of a plan, under the name of its style
abbrev pub style_files : ℕ → StylePlan → List (List ℕ × List ℕ)
style_files max plan = plan_files plan.style.names.style plan.style max plan.answer

-- the files of plans
abbrev pub county_files : ℕ → List StylePlan → List (List ℕ × List ℕ)
county_files max plans = flat_map (style_files max) plans

-- the files of plans and then their manifest
abbrev pub whole_files : ℕ → List StylePlan → List (List ℕ × List ℕ)
whole_files max plans =
    county_files max plans ++ (manifest_name, manifest (county_files max plans)) ∷ []

-- what was found for a style
abbrev pub found_of : StylePlan → Found
found_of plan = record { id = plan.style.names.style; answer = plan.answer }

-- every style is planned, and the files, the summary and the status are those of these plans
pub record IsAll (all : Whole) (definition : DefinitionValue) (status : Status) (texts : Texts) :
    Type 0 where
  pub plans : List StylePlan
  pub first : AreFirst all definition plans
  pub whole : length plans ≡ length definition.styles
  pub status_is : status ≡ county_status (map found_of plans)
  pub puts : texts.puts ≡ whole_files all.max plans
  pub summary : texts.summary ≡ county_text all.max (map found_of plans)

-- the files of the first styles, or those of all styles with the manifest
pub record IsAllBegun (all : Whole) (definition : DefinitionValue)
    (puts : List (List ℕ × List ℕ)) : Type 0 where
  pub plans : List StylePlan
  pub first : AreFirst all definition plans
  pub are : (puts ≡ county_files all.max plans)
      ⊎ ((length plans ≡ length definition.styles) × (puts ≡ whole_files all.max plans))

abbrev pub all_job : Whole → Job
all_job all = record {
  Inputs = DefinitionValue;
  reads = definition_in_file all.definition;
  Begun = IsAllBegun all;
  Is = IsAll all;
}

-- How far the plans of many styles have come, and the files that are put meanwhile.
use Rattle.std.specs.Prelude.{◌≡◌, ◌++◌, ◌+◌, ◌-◌, ℕ, All, List, length, map, Option}
use Rattle.election_json.specs.Definition.{DefinitionValue}
use Rattle.lat_shelf.specs.Shelf.{Files}
use Rattle.sample_styles.specs.Drawing.{Drawing, behind_style, style_after}
use Rattle.sample_styles.specs.SampleStyles.{sample_id, sample_styles, samples_after}
use Rattle.lat_top.specs.declared.county.County.{County}
use Rattle.lat_top.specs.declared.put.Put.{Put}
use Rattle.lat_top.specs.AllJob.{AreFirst, IsAllBegun, IsStylePlan, StylePlan, county_files}
use Rattle.lat_top.specs.AllJob.{found_of, style_files}
use Rattle.lat_top.specs.AskedStyle.{ruled_style}
use Rattle.lat_top.specs.Manifest.{manifest}
use Rattle.lat_top.specs.Said.{SaysMore, SaysOf}
use Rattle.lat_top.specs.SampleJob.{IsSampled, SamplePlan, found_in}
use Rattle.lat_top.specs.Words.{Sampled, Whole}
use Rattle.lat_top.specs.Writing.{FailedAt, StoppedAt, entries, files_after}

-- the first i styles are planned, and their files are put
pub record HoldsFirst (all : Whole) (definition : DefinitionValue) (i : ℕ) (county : County)
    (before after : Option Files) : Type 0 where
  pub plans : List StylePlan
  pub first : AreFirst all definition plans
  pub count : length plans ≡ i
  pub says : SaysOf all.max (map found_of plans) county
  pub manifest : county.manifest.items ≡ manifest (county_files all.max plans)
  pub files : after ≡ files_after (county_files all.max plans) before

-- style number i is planned, what is said of it is added, and these are its files
pub record Adds (all : Whole) (definition : DefinitionValue) (i : ℕ) (before after : County)
    (puts : List Put) : Type 0 where
  pub next : StylePlan
  pub style : next.style ≡ ruled_style definition i
  pub planned : IsStylePlan all next
  pub files : entries puts ≡ style_files all.max next
  pub says : SaysMore all.max (found_of next) before after
  pub manifest : after.manifest.items ≡ before.manifest.items ++ manifest (entries puts)

-- on the way to the plans of all styles a put failed
pub record BreaksAt (all : Whole) (definition : DefinitionValue) (before after : Option Files) :
    Type 0 where
  pub puts : List (List ℕ × List ℕ)
  pub begun : IsAllBegun all definition puts
  pub failed : FailedAt puts before after

-- on the way to the plans of all styles memory was wanting
pub record StopsAt (all : Whole) (definition : DefinitionValue) (before after : Option Files) :
    Type 0 where
  pub puts : List (List ℕ × List ℕ)
  pub begun : IsAllBegun all definition puts
  pub some : StoppedAt puts before after

-- the first i generated styles are planned, and this is where their drawing stands
pub record HoldsDrawn (sample : Sampled) (i : ℕ) (drawing : Drawing) (county : County) :
    Type 0 where
  pub plans : List SamplePlan
  pub drawn : map (λ plan. plan.style) plans
      ++ samples_after i (sample.styles - i) drawing.x ≡ sample_styles sample.seed sample.styles
  pub made : drawing.made ≡ i
  pub counted : county.counts.styles ≡ i
  pub answered : All (IsSampled sample) plans
  pub says : SaysOf sample.max (map found_in plans) county

-- the next generated style is planned, and what is said of it is added
pub record AddsDrawn (sample : Sampled) (old new : Drawing) (before after : County) :
    Type 0 where
  pub next : SamplePlan
  pub id : next.style.id ≡ sample_id (old.made + 1)
  pub shape : next.style.shape ≡ style_after old.x
  pub x : new.x ≡ behind_style old.x
  pub made : new.made ≡ old.made + 1
  pub answered : IsSampled sample next
  pub says : SaysMore sample.max (found_in next) before after

-- all generated styles are planned
pub record HoldsSamples (sample : Sampled) (county : County) : Type 0 where
  pub plans : List SamplePlan
  pub styles : map (λ plan. plan.style) plans ≡ sample_styles sample.seed sample.styles
  pub answered : All (IsSampled sample) plans
  pub says : SaysOf sample.max (map found_in plans) county

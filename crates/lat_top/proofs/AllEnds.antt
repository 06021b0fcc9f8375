-- What a call of `all` leaves.
use Rattle.std.proofs.Common.{◌≡◌, ◌≤◌, ◌++◌, [], ◌∷◌, Option, Ok, length, refl, ap, ◌∙◌, subst, inl, inr, arith}
use Rattle.deck_text.specs.CountyText.{count_line}
use Rattle.election_json.specs.Definition.{DefinitionValue}
use Rattle.lat_shelf.specs.Shelf.{Files, Rose}
use Rattle.lat_top.specs.declared.county.County.{County}
use Rattle.lat_top.specs.declared.status.Status.{Status}
use Rattle.lat_top.specs.declared.status.Status.TheVariants as s
use Rattle.lat_top.specs.AllJob.{all_job, county_files, definition_in_file}
use Rattle.lat_top.specs.Counted.{BreaksAt, HoldsFirst, StopsAt}
use Rattle.lat_top.specs.Job.{Ends, Leaves}
use Rattle.lat_top.specs.Manifest.{manifest_name}
use Rattle.lat_top.specs.Outside.{Outside}
use Rattle.lat_top.specs.Script.{Reads}
use Rattle.lat_top.specs.Words.{PlansAll, Whole}
use Rattle.lat_top.specs.Writing.{FailedAt, StoppedAt, files_after}
use Rattle.lat_top.specs.Written.{Texts, WritesAs}
use Rattle.lat_top.proofs.Calls.{leaves_written, shelf_moment, whole_begun}
use Rattle.lat_top.proofs.Counted.{is_all}
use Rattle.lat_top.proofs.Scripts.{gives_ok, rose_wider}
use Rattle.lat_top.proofs.Since.{Since, behind, writes_since}

-- the definition was read, and this is left
answered : (all : Whole) (definition : DefinitionValue) (before mid after : Outside)
    (status : Status) → Reads (definition_in_file all.definition) (shelf_moment before)
    (shelf_moment mid) (Ok definition) → Leaves (all_job all) definition status before after
    → Ends (all_job all) status before after
answered all definition before mid after status reads left = inr (record {
  inputs = definition;
  read = gives_ok (definition_in_file all.definition) before.files
      (Rose before.shelf_faults mid.shelf_faults) (Rose before.shelf_faults after.shelf_faults)
      definition reads.gives;
  left = left;
})

-- a put failed
pub all_broke : (all : Whole) (definition : DefinitionValue) (before mid after : Outside)
    → Reads (definition_in_file all.definition) (shelf_moment before) (shelf_moment mid)
    (Ok definition)
    → BreaksAt all definition mid.files after.files → after.given ≡ before.given
    → Rose mid.shelf_faults after.shelf_faults → Ends (all_job all) s.WriteFault before after
all_broke all definition before mid after reads breaks given rose =
    answered all definition before mid after s.WriteFault reads (inr (inl (
      refl,
      inl (record {
        puts = breaks.puts;
        begun = breaks.begun;
        failed = record {
          files = subst (λ (fs : Option Files). FailedAt breaks.puts fs after.files) reads.files breaks.failed;
          given = given;
          rose = rose_wider before.shelf_faults mid.shelf_faults after.shelf_faults after.shelf_faults
              reads.faults (omega arith) rose;
        };
      }),
    )))

-- memory was wanting
pub all_stopped : (all : Whole) (definition : DefinitionValue) (before mid after : Outside)
    → Reads (definition_in_file all.definition) (shelf_moment before) (shelf_moment mid)
    (Ok definition)
    → StopsAt all definition mid.files after.files → after.given ≡ before.given
    → Ends (all_job all) s.Memory before after
all_stopped all definition before mid after reads stops given =
    answered all definition before mid after s.Memory reads (inr (inr (
      refl,
      inl (record {
        puts = stops.puts;
        begun = stops.begun;
        some = record {
          files = subst (λ (fs : Option Files). StoppedAt stops.puts fs after.files) reads.files stops.some;
          given = given;
        };
      }),
    )))

-- all styles are planned, and what is written last was written as far as the status says
pub all_wrote : (all : Whole) (definition : DefinitionValue) (before mid later after : Outside)
    (county : County) (planned status : Status) (texts : Texts)
    → Reads (definition_in_file all.definition) (shelf_moment before) (shelf_moment mid)
    (Ok definition)
    → HoldsFirst all definition (length definition.styles) county mid.files later.files
    → later.given ≡ before.given → mid.shelf_faults ≤ later.shelf_faults
    → later.sink_faults ≡ before.sink_faults
    → planned ≡ county.status → texts.puts ≡ (manifest_name, county.manifest.items) ∷ []
    → texts.summary ≡ county.lines.items ++ count_line county.counts
    → WritesAs planned texts later after status → Ends (all_job all) status before after
all_wrote all definition before mid later after county planned status texts reads holds given shelf sink status_is puts summary writes =
    let files = county_files all.max holds.plans in
    let since : Since files before later = record {
      files = holds.files ∙ ap (files_after files) reads.files;
      given = given;
      shelf = omega (arith, reads.faults, shelf);
      sink = sink;
    } in
    let answer = is_all all definition county mid.files later.files planned texts holds status_is puts summary in
    answered all definition before mid after status reads
    (leaves_written (all_job all) definition planned (behind files texts) status before after answer
    (whole_begun (PlansAll all) definition planned (behind files texts) answer)
    (writes_since files planned status texts before later after since writes))

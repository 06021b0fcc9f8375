-- A job: what a command reads, and what it answers. What a call leaves that does it.
use Rattle.std.specs.Prelude.{◌≡◌, ◌⊎◌, ℕ, List, Some, Result, Ok, Err}
use Rattle.lat_shelf.specs.Shelf.{Files, Rose}
use Rattle.lat_top.specs.declared.status.Status.{Status}
use Rattle.lat_top.specs.declared.status.Status.TheVariants as s
use Rattle.lat_top.specs.declared.refusal.Refusal.{Refusal}
use Rattle.lat_top.specs.declared.output.Output.{Output}
use Rattle.lat_top.specs.Outside.{Outside, Untouched}
use Rattle.lat_top.specs.Script.{Script, Gives, Moment, Outcome, Reads}
use Rattle.lat_top.specs.RefusalStatus.{status_of}
use Rattle.lat_top.specs.Writing.{GaveFront, PutFailed, PutSome, Wrote}
use Rattle.lat_top.specs.Written.{Texts, texts_of}

-- what is read and judged; which files may be put on the way to an answer; and which statuses and
-- texts answer it
pub record Job : Type 1 where
  pub Inputs : Type 0
  pub reads : Script Inputs
  pub Begun : Inputs → List (List ℕ × List ℕ) → Type 0
  pub Is : Inputs → Status → Texts → Type 0

-- the files of an answer, where none is put before the answer is there
abbrev pub FilesOf : {I : Type 0} → (I → Status → Texts → Type 0) → I → List (List ℕ × List ℕ)
    → Type 0
FilesOf Is inputs puts =
    (status : Status) × (texts : Texts) × Is inputs status texts × (puts ≡ texts.puts)

-- the job of a command that has its answer before it puts a file
abbrev pub job : (I : Type 0) → Script I → (I → Status → Texts → Type 0) → Job
job I reads Is = record { Inputs = I; reads = reads; Begun = FilesOf Is; Is = Is }

-- the answer that was made of what a job reads, or why there is none
abbrev pub AnswersTo : Job → Moment → Moment → Result Output Refusal → Type 0
AnswersTo job before after (Ok output) = (inputs : job.Inputs)
    × Reads job.reads before after (Ok inputs) × job.Is inputs output.status (texts_of output)
AnswersTo job before after (Err refusal) = Reads job.reads before after (Err refusal)

pub record Answers (job : Job) (before after : Moment) (result : Result Output Refusal) :
    Type 0 where
  pub what : AnswersTo job before after result

-- the call was refused, and nothing was put or given
pub record Refused (job : Job) (status : Status) (before after : Outside) : Type 0 where
  pub refusal : Refusal
  pub is : status ≡ status_of refusal
  pub why : let Fault = Rose before.shelf_faults after.shelf_faults in
      Gives job.reads before.files Fault (Err refusal)
  pub same : Untouched before after

-- an answer was made and all of it was written
pub record Whole (job : Job) (inputs : job.Inputs) (status : Status) (before after : Outside) :
    Type 0 where
  pub texts : Texts
  pub answer : job.Is inputs status texts
  pub wrote : Wrote texts.puts texts.summary before after

-- an answer was made, all its files were put, and a front of its summary was given
pub record GaveSome (job : Job) (inputs : job.Inputs) (before after : Outside) : Type 0 where
  pub planned : Status
  pub texts : Texts
  pub answer : job.Is inputs planned texts
  pub gave : GaveFront texts.puts texts.summary before after

-- on the way to an answer a put failed
pub record Broke (job : Job) (inputs : job.Inputs) (before after : Outside) : Type 0 where
  pub puts : List (List ℕ × List ℕ)
  pub begun : job.Begun inputs puts
  pub failed : PutFailed puts before after

-- on the way to an answer some files were put, and then memory was wanting
pub record Stopped (job : Job) (inputs : job.Inputs) (before after : Outside) : Type 0 where
  pub puts : List (List ℕ × List ℕ)
  pub begun : job.Begun inputs puts
  pub some : PutSome puts before after

-- what a call leaves that has its inputs: an answer, written whole; or a put or a give failed; or
-- memory was wanting
abbrev pub Leaves : (job : Job) → job.Inputs → Status → Outside → Outside → Type 0
Leaves job inputs status before after =
    Whole job inputs status before after
    ⊎ (((status ≡ s.WriteFault) × (Broke job inputs before after
    ⊎ (GaveSome job inputs before after × Rose before.sink_faults after.sink_faults)))
    ⊎ ((status ≡ s.Memory) × (Stopped job inputs before after
    ⊎ GaveSome job inputs before after)))

-- all was read and judged, and an answer was made and written, as far as the status says
pub record Answered (job : Job) (status : Status) (before after : Outside) : Type 0 where
  pub inputs : job.Inputs
  pub read : let Fault = Rose before.shelf_faults after.shelf_faults in
      Gives job.reads before.files Fault (Ok inputs)
  pub left : Leaves job inputs status before after

-- what a call leaves that does a job
abbrev pub Ends : Job → Status → Outside → Outside → Type 0
Ends job status before after =
    Refused job status before after ⊎ Answered job status before after

-- what a call leaves, from what a script came to
abbrev pub EndsBy : (job : Job) → Result job.Inputs Refusal → Status → Outside → Outside → Type 0
EndsBy job (Err refusal) status before after =
    (status ≡ status_of refusal) × Untouched before after
EndsBy job (Ok inputs) status before after = (texts : Texts) × job.Is inputs status texts
    × Wrote texts.puts texts.summary before after

-- where the files are told and no fault rose, the call ends by what the script comes to with them,
-- unless memory was wanting
abbrev pub Completes : Job → Status → Outside → Outside → Type 0
Completes job status before after = (files : Files) → before.files ≡ Some files
    → ¬ Rose before.shelf_faults after.shelf_faults → ¬ Rose before.sink_faults after.sink_faults
    → (status ≡ s.Memory)
    ⊎ ((came : Result job.Inputs Refusal) × Outcome job.reads files came
    × EndsBy job came status before after)

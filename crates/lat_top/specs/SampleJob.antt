-- The job of `sample`: generated styles are planned, and no file is put.
use Rattle.std.specs.Prelude.{◌≡◌, true, All, List, [], map}
use Rattle.lat_base.specs.Rules.{rule_set}
use Rattle.planner.specs.declared.answer.Answer.{Answer}
use Rattle.sample_styles.specs.SampleStyles.{sample_styles}
use Rattle.sample_styles.specs.declared.sample.Sample.{Sample}
use Rattle.lat_top.specs.declared.status.Status.{Status}
use Rattle.lat_top.specs.County.{Found, county_status, county_text}
use Rattle.lat_top.specs.Job.{Job, job}
use Rattle.lat_top.specs.PlanJob.{IsAnswered}
use Rattle.lat_top.specs.Script.{Give}
use Rattle.lat_top.specs.Words.{Sampled}
use Rattle.lat_top.specs.Written.{Texts}

-- a generated style, and an answer of the planner for it
pub record SamplePlan : Type 0 where
  pub style : Sample
  pub answer : Answer

-- the answer is one for the style under the rules true/1/1/1
abbrev pub IsSampled : Sampled → SamplePlan → Type 0
IsSampled sample plan = IsAnswered sample.max sample.budget plan.style.shape
    (rule_set true 1 1 1) plan.answer

-- what was found for a generated style
abbrev pub found_in : SamplePlan → Found
found_in plan = record { id = plan.style.id; answer = plan.answer }

-- the generated styles are planned in order, no file is put, and the summary and the status are
-- those of these plans
pub record IsSample (sample : Sampled) (status : Status) (texts : Texts) : Type 0 where
  pub plans : List SamplePlan
  pub styles : map (λ plan. plan.style) plans ≡ sample_styles sample.seed sample.styles
  pub answered : All (IsSampled sample) plans
  pub status_is : status ≡ county_status (map found_in plans)
  pub puts : texts.puts ≡ []
  pub summary : texts.summary ≡ county_text sample.max (map found_in plans)

abbrev pub sample_job : Sampled → Job
sample_job sample =
    job (Unit {0}) (Give tt) (λ nothing status texts. IsSample sample status texts)

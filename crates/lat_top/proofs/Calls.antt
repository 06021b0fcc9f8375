-- What a call leaves, from what it answered and what it wrote.
use Rattle.std.proofs.Common.{◌≡◌, ℕ, List, [], ◌∷◌, length, map, Option, Some, Result, Ok, Err, refl, ap, sym, ◌∙◌, subst, inl, inr}
use Rattle.std.specs.Prelude.{IsErrAnd}
use Rattle.std.proofs.lemmas.Bool.{cases_Bool}
use Rattle.lat_shelf.specs.Shelf.{Files, Rose}
use Rattle.lat_top.specs.declared.status.Status.{Status}
use Rattle.lat_top.specs.declared.status.Status.TheVariants as s
use Rattle.lat_top.specs.declared.refusal.Refusal.{Refusal}
use Rattle.lat_top.specs.declared.refusal.Refusal.TheVariants as r
use Rattle.lat_top.specs.declared.word_fault.WordFault.{WordFault}
use Rattle.adversary.specs.declared.attacking.Attacked.{Attacked}
use Rattle.adversary.specs.declared.attacking.Attacked.TheVariants as attacked
use Rattle.planner.specs.declared.answer.Answer.{Answer}
use Rattle.planner.specs.declared.answer.Answer.TheVariants as answered
use Rattle.lat_top.specs.PlanAnswer.{answer_status}
use Rattle.lat_judge.specs.declared.judging.Judged.{Judged as Judgement}
use Rattle.lat_judge.specs.declared.judging.Judged.TheVariants.{Pass, Differs}
use Rattle.lat_top.specs.CheckJob.{check_job}
use Rattle.lat_top.specs.MatchJob.{match_job}
use Rattle.lat_top.specs.JudgeJob.{judge_job, judged_status}
use Rattle.lat_top.specs.Words.{Asked, Plans, Verifies, Checks, Matches, Judges}
use Rattle.lat_top.specs.Words.{PlansAll, Samples}
use Rattle.lat_top.specs.AllJob.{all_job, found_of}
use Rattle.lat_top.specs.County.{Found, county_status, is_spent, status_after, with_answer}
use Rattle.lat_top.specs.SampleJob.{found_in, sample_job}
use Rattle.lat_top.specs.Jobs.{job_of}
use Rattle.lat_top.specs.PlanJob.{plan_job}
use Rattle.lat_top.specs.VerifyJob.{verify_job, attack_status}
use Rattle.lat_top.specs.declared.output.Output.{Output}
use Rattle.lat_top.specs.Outside.{Outside}
use Rattle.lat_top.specs.RefusalStatus.{status_of}
use Rattle.lat_top.specs.Script.{Follows, Moment, Outcome, Reads}
use Rattle.lat_top.specs.Job.{Job, Answers, Ends, Completes, Leaves}
use Rattle.lat_top.specs.Written.{Texts, texts_of, WritesAs}
use Rattle.lat_top.proofs.Since.{Since, writes_since}
use Rattle.lat_top.proofs.Scripts.{gives_ok, follows_outcome}

-- a refusal that was handed on
pub answers_err : (job : Job) (before after : Moment) (refusal : Refusal)
    (result : Result Output Refusal) → IsErrAnd result (λ e. e ≡ refusal)
    → Reads job.reads before after (Err refusal) → Answers job before after result
answers_err job before after refusal (Ok output) is h = absurd is
answers_err job before after refusal (Err other) is h = record { what = subst (λ (x : Refusal). Reads job.reads before after (Err x)) (sym is) h }

-- the moment of a call's shelf
abbrev pub shelf_moment : Outside → Moment
shelf_moment world = record { files = world.files; faults = world.shelf_faults }

-- an answer was made, and then written as far as the status says
pub leaves_written : (job : Job) (inputs : job.Inputs) (planned : Status) (texts : Texts)
    (status : Status) (before after : Outside) → job.Is inputs planned texts
    → job.Begun inputs texts.puts → WritesAs planned texts before after status
    → Leaves job inputs status before after
leaves_written job inputs planned texts status before after answer begun left = elim left [
  | inl all ↦ inl (record {
    texts = texts;
    answer = subst (λ (x : Status). job.Is inputs x texts) (sym all.0) answer;
    wrote = all.1;
  })
  | inr part ↦ elim part [
    | inl failed ↦ inr (inl (
      failed.0,
      elim failed.1 [
        | inl put ↦ inl (record { puts = texts.puts; begun = begun; failed = put })
        | inr gave ↦ inr (record { planned = planned; texts = texts; answer = answer; gave = gave.0 }, gave.1)
      ],
    ))
    | inr stopped ↦ inr (inr (
      stopped.0,
      elim stopped.1 [
        | inl put ↦ inl (record { puts = texts.puts; begun = begun; some = put })
        | inr gave ↦ inr (record { planned = planned; texts = texts; answer = answer; gave = gave })
      ],
    ))
  ]
]

-- an answer was written
pub ends_written : (job : Job) (output : Output) (status : Status) (before middle after : Outside)
    → ((inputs : job.Inputs) (planned : Status) (texts : Texts) → job.Is inputs planned texts
    → job.Begun inputs texts.puts)
    → Answers job (shelf_moment before) (shelf_moment middle) (Ok output)
    → middle.given ≡ before.given → middle.sink_faults ≡ before.sink_faults
    → WritesAs output.status (texts_of output) middle after status → Ends job status before after
ends_written job output status before middle after begun answer given sink left =
    let what = answer.what in
    let since : Since [] before middle = record { files = what.1.files; given = given; shelf = what.1.faults; sink = sink } in
    inr (record {
      inputs = what.0;
      read = gives_ok job.reads before.files (Rose before.shelf_faults middle.shelf_faults) (Rose before.shelf_faults after.shelf_faults) what.0 what.1.gives;
      left = leaves_written job what.0 output.status (texts_of output) status before after what.2
          (begun what.0 output.status (texts_of output) what.2)
          (writes_since [] output.status status (texts_of output) before middle after since left);
    })

-- what a script came to is its outcome
told_outcome : (job : Job) (files : Files) (before after : Outside)
    (came : Result job.Inputs Refusal) → before.files ≡ Some files
    → ¬ Rose before.shelf_faults after.shelf_faults
    → Follows job.reads before.files (Rose before.shelf_faults after.shelf_faults) came
    → Outcome job.reads files came
told_outcome job files before after came told none how =
    let F = Rose before.shelf_faults after.shelf_faults in
    follows_outcome job.reads files F came none
    (subst (λ (fs : Option Files). Follows job.reads fs F came) told how)

pub completes : (job : Job) (status : Status) (before after : Outside)
    → Ends job status before after → Completes job status before after
completes job status before after ends = λ files told shelf sink. elim ends [
  | inl refused ↦ elim refused.why.how [
    | inl memory ↦ let e : refused.refusal ≡ r.Memory = cc in inl (refused.is ∙ ap status_of e)
    | inr how ↦ inr (Err refused.refusal, told_outcome job files before after (Err refused.refusal) told shelf how, (refused.is, refused.same))
  ]
  | inr answered ↦ elim answered.read.how [
    | inl memory ↦ absurd cc
    | inr how ↦ elim answered.left [
      | inl all ↦ inr (
        Ok answered.inputs,
        told_outcome job files before after (Ok answered.inputs) told shelf how,
        (all.texts, all.answer, all.wrote),
      )
      | inr part ↦ elim part [
        | inl failed ↦ elim failed.1 [
          | inl broke ↦ absurd (shelf broke.failed.rose)
          | inr gave ↦ absurd (sink gave.1)
        ]
        | inr stopped ↦ inl stopped.0
      ]
    ]
  ]
]

-- no refusal is a fault of the words
no_words : (refusal : Refusal) (fault : WordFault) → ¬ (s.Words fault ≡ status_of refusal)
no_words r.Memory fault h = cc
no_words r.ReadFault fault h = cc
no_words (r.TooLong n) fault h = cc
no_words (r.Definition f) fault h = cc
no_words r.NoStyle fault h = cc
no_words r.NotACertificate fault h = cc
no_words (r.CertFalse part i) fault h = cc
no_words (r.Csv f) fault h = cc
no_words (r.OtherStyle spot) fault h = cc

-- a job whose answers aren't faults of the words ends with none
ends_plain : (job : Job) (fault : WordFault) (before after : Outside)
    → ((inputs : job.Inputs) (texts : Texts) → ¬ job.Is inputs (s.Words fault) texts)
    → ¬ Ends job (s.Words fault) before after
ends_plain job fault before after none ends = elim ends [
  | inl refused ↦ no_words refused.refusal fault refused.is
  | inr answered ↦ elim answered.left [
    | inl all ↦ none answered.inputs all.texts all.answer
    | inr part ↦ elim part [
      | inl failed ↦ let bad = failed.0 in absurd cc
      | inr stopped ↦ let bad = stopped.0 in absurd cc
    ]
  ]
]

-- the files of an answer may be put on the way to it
pub whole_begun : (asked : Asked) (inputs : (job_of asked).Inputs) (planned : Status)
    (texts : Texts) → (job_of asked).Is inputs planned texts
    → (job_of asked).Begun inputs texts.puts
whole_begun (Plans plan) inputs planned texts h = (planned, texts, h, refl)
whole_begun (Verifies verify) inputs planned texts h = (planned, texts, h, refl)
whole_begun (Checks cert) inputs planned texts h = (planned, texts, h, refl)
whole_begun (Matches asked) inputs planned texts h = (planned, texts, h, refl)
whole_begun (Judges asked) inputs planned texts h = (planned, texts, h, refl)
whole_begun (PlansAll asked) inputs planned texts h =
    record { plans = h.plans; first = h.first; are = inr (h.whole, h.puts) }
whole_begun (Samples asked) inputs planned texts h = (planned, texts, h, refl)

no_attack : (fault : WordFault) (n : ℕ) (attack : Attacked)
    → ¬ (s.Words fault ≡ attack_status n attack)
no_attack fault n (attacked.Evaded evader) h = cc
no_attack fault n (attacked.Robust tree) h = cc
no_attack fault n (attacked.Spent tree) h = cc

no_judgement : (fault : WordFault) (judged : Judgement)
    → ¬ (s.Words fault ≡ judged_status judged)
no_judgement fault Pass h = cc
no_judgement fault (Differs t votes told) h = cc

no_answer : (fault : WordFault) (answer : Answer) → ¬ (s.Words fault ≡ answer_status answer)
no_answer fault (answered.Least proved lower) h = cc
no_answer fault (answered.NoneWithin lower) h = cc
no_answer fault (answered.Spent kept) h = cc

-- an answer more makes no fault of the words
no_fault_with : (fault : WordFault) (status : Status) (answer : Answer)
    → ¬ (s.Words fault ≡ status) → ¬ (s.Words fault ≡ with_answer status answer)
no_fault_with fault status (answered.Least proved lower) none is = none is
no_fault_with fault status (answered.NoneWithin lower) none is =
    elim (cases_Bool (is_spent status)) [
      | inl spent ↦ none (rw spent at is)
      | inr other ↦ let bad : s.Words fault ≡ s.NoDeck = rw other at is in absurd cc
    ]
no_fault_with fault status (answered.Spent kept) none is =
    elim (cases_Bool (is_spent status)) [
      | inl spent ↦ none (rw spent at is)
      | inr other ↦ no_answer fault (answered.Spent kept) (rw other at is)
    ]

no_fault_after : (fault : WordFault) (status : Status) (founds : List Found)
    → ¬ (s.Words fault ≡ status) → ¬ (s.Words fault ≡ status_after status founds)
no_fault_after fault status [] none = none
no_fault_after fault status (found ∷ later) none =
    no_fault_after fault (with_answer status found.answer) later
    (no_fault_with fault status found.answer none)

no_county : (fault : WordFault) (founds : List Found) → ¬ (s.Words fault ≡ county_status founds)
no_county fault founds = no_fault_after fault s.Done founds (λ is. absurd cc)

-- no command ends with a fault of the words
pub command_plain : (asked : Asked) (fault : WordFault) (before after : Outside)
    → ¬ Ends (job_of asked) (s.Words fault) before after
command_plain (Plans plan) fault before after = ends_plain (plan_job plan) fault before after (λ inputs texts h. no_answer fault h.answer h.status_is)
command_plain (Verifies verify) fault before after = ends_plain (verify_job verify) fault before after (λ inputs texts h. no_attack fault (length inputs.deck.ballots) h.attack h.status_is)
command_plain (Checks cert) fault before after = ends_plain (check_job cert) fault before after
    (λ inputs texts h. let bad = h.status_is in absurd cc)
command_plain (Matches asked) fault before after = ends_plain (match_job asked) fault before after
    (λ inputs texts h. let bad = h.status_is in absurd cc)
command_plain (Judges asked) fault before after = ends_plain (judge_job asked) fault before after
    (λ inputs texts h. no_judgement fault h.judged h.status_is)
command_plain (PlansAll asked) fault before after = ends_plain (all_job asked) fault before after
    (λ inputs texts h. no_county fault (map found_of h.plans) h.status_is)
command_plain (Samples asked) fault before after = ends_plain (sample_job asked) fault before after
    (λ inputs texts h. no_county fault (map found_in h.plans) h.status_is)

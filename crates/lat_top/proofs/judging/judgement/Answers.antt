use Rattle.std.proofs.Common.{◌≡◌, ◌<◌, ◌↔◌, ℕ, refl, subst}
use Rattle.std.proofs.lemmas.Option.{slice_get_within}
use Rattle.lat_judge.specs.Judging.{IsFirstDifference, Passes, expected}
use Rattle.lat_judge.specs.declared.judging.Judged.{Judged}
use Rattle.lat_judge.specs.declared.judging.Judged.TheVariants.{Pass, Differs}
use Rattle.lat_top.specs.JudgeJob.{IsJudgement, JudgeInputs, inputs_of}
use Rattle.lat_top.proofs.judging.judgement.Goals as goal

is_judgement : (inputs : JudgeInputs) (judged : Judged)
    → ((judged ≡ Pass) ↔ Passes inputs.cert inputs.reported)
    → ((t e r : ℕ) → (judged ≡ Differs t e r)
    ↔ IsFirstDifference (expected inputs.cert) inputs.reported t e r)
    → IsJudgement inputs judged
is_judgement inputs Pass pass differs = pass.0 refl
is_judgement inputs (Differs t e r) pass differs = (differs t e r).0 refl

pub returns-clause-is : goal.returns-clause-is
returns-clause-is c = is_judgement (inputs_of c.args.cert.now c.args.reported.now) c.judge.result c.judge.ensures.pass c.judge.ensures.differs

pub returns-clause-within : goal.returns-clause-within
returns-clause-within c = λ t votes told is.
    let first = (c.judge.ensures.differs t votes told).0 is in
    subst (λ (n : ℕ). t < n) c.requires.long (slice_get_within c.args.reported.now t told first.is_told)

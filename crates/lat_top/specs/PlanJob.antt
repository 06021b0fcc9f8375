-- The job of `plan`: a good deck of the fewest ballots; or that no good deck is within the size
-- cap; or from which number of ballots on that is open.
use Rattle.std.specs.Prelude.{◌≡◌, ℕ, List}
use Rattle.lat_base.specs.Rules.{RuleSet}
use Rattle.lat_base.specs.Shape.{target_count}
use Rattle.lat_base.specs.declared.contest.Contest.{Contest}
use Rattle.cert_format.specs.Files.{IsCert, IsOpen}
use Rattle.cert_types.specs.Holding.{CertHolds, OpenHolds}
use Rattle.deck_text.specs.PlanText.{plan_text}
use Rattle.planner.specs.Answer.{IsAnswer, IsSearchedAnswer}
use Rattle.planner.specs.Reach.{IsAmple, IsDecided}
use Rattle.planner.specs.declared.answer.Answer.{Answer}
use Rattle.planner.specs.declared.answer.Answer.TheVariants.{Least, NoneWithin, Spent}
use Rattle.lat_top.specs.declared.asked_style.AskedStyle.{AskedStyle}
use Rattle.lat_top.specs.declared.status.Status.{Status}
use Rattle.lat_top.specs.Words.{Plan}
use Rattle.lat_top.specs.Job.{Job, job}
use Rattle.lat_top.specs.AskedStyle.{style_in_file}
use Rattle.lat_top.specs.PlanAnswer.{answer_cert, answer_deck, answer_status, answer_verdict}
use Rattle.lat_top.specs.PlanAnswer.{deck_size, kept_open}
use Rattle.lat_top.specs.PlanFiles.{plan_files}
use Rattle.lat_top.specs.Written.{Texts}

-- the bytes that are put as the open file spell one that holds
abbrev pub OpenPutHolds : ℕ → AskedStyle → Answer → Type 0
OpenPutHolds max style (Least proved lower) = Unit {0}
OpenPutHolds max style (NoneWithin lower) = Unit {0}
OpenPutHolds max style (Spent kept) =
    IsOpen (kept_open max style kept) × OpenHolds (kept_open max style kept)

-- the bytes that are put as the certificate spell one that holds, and so do those of the open file
pub record PutsHold (max : ℕ) (style : AskedStyle) (answer : Answer) : Type 0 where
  pub spelled : IsCert (answer_cert max style answer)
  pub holds : CertHolds (answer_cert max style answer)
  pub open_holds : OpenPutHolds max style answer

-- an answer of the planner: nothing was passed over on the way to it, and an ample budget leaves no
-- size open
pub record IsAnswered (max budget : ℕ) (shape : List Contest) (rules : RuleSet) (answer : Answer) :
    Type 0 where
  pub is_answer : IsAnswer shape rules max budget answer
  pub searched : IsSearchedAnswer shape rules budget answer
  pub decided : IsAmple shape max budget → IsDecided answer

-- an answer of the planner for a style, whose files spell what holds
pub record IsPlanned (max budget : ℕ) (style : AskedStyle) (answer : Answer) : Type 0 where
  pub answered : IsAnswered max budget style.shape style.rules answer
  pub puts_hold : PutsHold max style answer

-- the status, the files and the summary are all of one answer
pub record IsPlan (plan : Plan) (style : AskedStyle) (status : Status) (texts : Texts) :
    Type 0 where
  pub answer : Answer
  pub planned : IsPlanned plan.max plan.budget style answer
  pub status_is : status ≡ answer_status answer
  pub puts : texts.puts ≡ plan_files plan.prefix style plan.max answer
  pub summary : texts.summary ≡ plan_text style.names (target_count style.shape)
      (answer_verdict plan.max answer) (deck_size (answer_deck answer))

abbrev pub plan_job : Plan → Job
plan_job plan = job AskedStyle (style_in_file plan.definition plan.style) (IsPlan plan)

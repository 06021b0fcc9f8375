-- The job of `judge`: whether a report has the totals of a certificate's deck.
use Rattle.std.specs.Prelude.{◌≡◌, ◌++◌, ℕ, List, [], codes, Option, Some, None, Result, Ok, Err}
use Rattle.std.specs.Fmt.{decimal}
use Rattle.cert_types.specs.CertValue.{CertValue}
use Rattle.cert_types.specs.declared.part.Part.TheVariants as part
use Rattle.cert_types.specs.declared.proved.Proved.{Proved}
use Rattle.deck_text.specs.declared.fault.CsvFault.{CsvFault}
use Rattle.deck_text.specs.ReportRead.{report_read}
use Rattle.deck_text.specs.Rows.{file_records}
use Rattle.deck_text.specs.TargetNames.{FullName, target_names}
use Rattle.deck_text.specs.VerifyText.{printed}
use Rattle.lat_judge.specs.declared.judging.Judged.{Judged}
use Rattle.lat_judge.specs.declared.judging.Judged.TheVariants.{Pass, Differs}
use Rattle.lat_judge.specs.Judging.{IsFirstDifference, Passes, expected}
use Rattle.lat_top.specs.declared.refusal.Refusal.{Refusal}
use Rattle.lat_top.specs.declared.refusal.Refusal.TheVariants as r
use Rattle.lat_top.specs.declared.status.Status.{Status}
use Rattle.lat_top.specs.declared.status.Status.TheVariants as s
use Rattle.lat_top.specs.CertFile.{cert_in_file}
use Rattle.lat_top.specs.Job.{Job, job}
use Rattle.lat_top.specs.Limits.{file_limit}
use Rattle.lat_top.specs.Script.{Script, Give, ◌>>=◌, judge, read}
use Rattle.lat_top.specs.Words.{Judge}
use Rattle.lat_top.specs.Written.{Texts}

-- a certificate, and the totals that were reported, in target order
pub record JudgeInputs : Type 0 where
  pub cert : CertValue
  pub reported : List ℕ

-- the certificate, if it has a deck
abbrev pub with_deck : CertValue → Option Proved → Result CertValue Refusal
with_deck cert None = Err (r.CertFalse part.Deck 0)
with_deck cert (Some proved) = Ok cert

-- a certificate with reported totals
abbrev pub inputs_of : CertValue → List ℕ → JudgeInputs
inputs_of cert reported = record { cert = cert; reported = reported }

-- a table's totals, or its first fault
abbrev pub or_csv : Result (List ℕ) CsvFault → Result (List ℕ) Refusal
or_csv (Ok reported) = Ok reported
or_csv (Err fault) = Err (r.Csv fault)

-- the totals that a file's bytes are in the style of a certificate, or the first fault
abbrev pub table_report : CertValue → List ℕ → Result (List ℕ) Refusal
table_report cert bytes =
    or_csv (report_read cert.contests cert.names.contests (file_records bytes))

-- the certificate in a file; one without a deck is refused
abbrev pub deck_cert_in_file : List ℕ → Script CertValue
deck_cert_in_file name = do
  cert ← cert_in_file name
  judge (with_deck cert cert.proved)

-- the totals in a file
abbrev pub report_in_file : CertValue → List ℕ → Script (List ℕ)
report_in_file cert name = do
  table ← read name file_limit
  judge (table_report cert table)

-- the certificate is read, and then the report
abbrev pub judge_reads : Judge → Script JudgeInputs
judge_reads asked = do
  cert ← deck_cert_in_file asked.cert
  reported ← report_in_file cert asked.report
  Give (inputs_of cert reported)

-- the totals are those that the deck must give, or the first that differs
abbrev pub IsJudgement : JudgeInputs → Judged → Type 0
IsJudgement inputs Pass = Passes inputs.cert inputs.reported
IsJudgement inputs (Differs t votes told) =
    IsFirstDifference (expected inputs.cert) inputs.reported t votes told

-- how a judgement ends the call
abbrev pub judged_status : Judged → Status
judged_status Pass = s.Done
judged_status (Differs t expected reported) = s.Differs t expected reported

-- what is said of it
abbrev pub judged_text : List FullName → Judged → List ℕ
judged_text names Pass = codes "pass\n"
judged_text names (Differs t expected reported) = codes "differs " ++ printed names t
    ++ codes " expected " ++ decimal expected ++ codes " reported " ++ decimal reported
    ++ codes "\n"

-- no file, and the summary of a judgement
pub record IsJudge (inputs : JudgeInputs) (status : Status) (texts : Texts) : Type 0 where
  pub judged : Judged
  pub is_judged : IsJudgement inputs judged
  pub status_is : status ≡ judged_status judged
  pub puts : texts.puts ≡ []
  pub summary : texts.summary ≡ judged_text (target_names inputs.cert.names.contests) judged

abbrev pub judge_job : Judge → Job
judge_job asked = job JudgeInputs (judge_reads asked) IsJudge

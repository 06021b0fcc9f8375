-- The job of `check`: that a certificate holds, and so its claim is true.
use Rattle.std.specs.Prelude.{◌≡◌, ℕ, List, [], Result, Ok, Err}
use Rattle.lat_base.specs.Shape.{target_count}
use Rattle.cert_types.specs.CertValue.{CertValue}
use Rattle.cert_types.specs.Claim.{CertClaim}
use Rattle.cert_types.specs.Holding.{CertHolds, IsCertFault}
use Rattle.deck_text.specs.PlanText.{plan_text}
use Rattle.lat_top.specs.declared.refusal.Refusal.{Refusal}
use Rattle.lat_top.specs.declared.refusal.Refusal.TheVariants as r
use Rattle.lat_top.specs.declared.status.Status.{Status}
use Rattle.lat_top.specs.declared.status.Status.TheVariants as s
use Rattle.lat_top.specs.CertFile.{cert_in_file}
use Rattle.lat_top.specs.Job.{Job, job}
use Rattle.lat_top.specs.PlanAnswer.{deck_size}
use Rattle.lat_top.specs.Script.{Script, ◌>>=◌, find}
use Rattle.lat_top.specs.Written.{Texts}

-- a certificate that holds, or its first fault
abbrev pub IsHeld : CertValue → Result CertValue Refusal → Type 0
IsHeld cert (Ok held) = (held ≡ cert) × CertHolds cert
IsHeld cert (Err (r.CertFalse part i)) = IsCertFault cert part i
IsHeld cert (Err refusal) = ⊥

-- the file is read to its end, then its bytes, and then its parts are judged
abbrev pub check_reads : List ℕ → Script CertValue
check_reads name = do
  cert ← cert_in_file name
  find (IsHeld cert)

-- no file, and the summary of a certificate whose claim is true
pub record IsCheck (cert : CertValue) (status : Status) (texts : Texts) : Type 0 where
  pub status_is : status ≡ s.Done
  pub claim : CertClaim cert
  pub puts : texts.puts ≡ []
  pub summary : texts.summary ≡ plan_text cert.names (target_count cert.contests) cert.verdict
      (deck_size cert.proved)

abbrev pub check_job : List ℕ → Job
check_job name = job CertValue (check_reads name) IsCheck

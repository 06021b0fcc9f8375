-- A certificate that is read and checked piece by piece.
use Rattle.std.specs.Prelude.{◌≡◌, ◌⊎◌, ℕ, List, Some, Result, Ok, Err, ⊤}
use Rattle.cert_fields.specs.declared.fault.CertFault.TheVariants as faults
use Rattle.cert_stream.specs.declared.head.Head.{Head}
use Rattle.cert_stream.specs.Answer.{IsHeadOf, IsNoFront}
use Rattle.cert_stream.specs.Stands.{Held, StandsFor}
use Rattle.cert_types.specs.CertValue.{CertValue}
use Rattle.cert_types.specs.Claim.{CertClaim}
use Rattle.lat_top.specs.declared.refusal.Refusal.{Refusal}
use Rattle.lat_top.specs.declared.refusal.Refusal.TheVariants as r
use Rattle.lat_top.specs.CertFile.{IsCertOf}
use Rattle.lat_top.specs.CheckJob.{IsHeld, check_reads}
use Rattle.lat_top.specs.Limits.{cert_limit}
use Rattle.lat_top.specs.Script.{Moment, Reads, read}

-- a check that met no error stands for these bytes; or it refused them, and no certificate begins
-- with them
abbrev pub StandsOrRefused : Held → List ℕ → Type 0
StandsOrRefused held bytes =
    StandsFor held bytes ⊎ ((held.fault ≡ Some faults.NotACertificate) × IsNoFront bytes)

-- all bytes of a file were taken in by a check that stands for them, or the file couldn't be read
abbrev pub FedFile : List ℕ → Moment → Moment → Result Held Refusal → Type 0
FedFile name before after (Ok held) = (bytes : List ℕ)
    × Reads (read name cert_limit) before after (Ok bytes) × StandsOrRefused held bytes
FedFile name before after (Err refusal) = Reads (read name cert_limit) before after (Err refusal)

-- what the end of a check says of its bytes: the head of the certificate that they spell, which
-- holds and claims the truth; or its first fault; or that they spell none
abbrev pub EndSays : List ℕ → Result Head Refusal → Type 0
EndSays bytes (Ok head) = (cert : CertValue) × IsCertOf bytes (Ok cert) × IsHeld cert (Ok cert)
    × IsHeadOf cert head × CertClaim cert
EndSays bytes (Err (r.CertFalse part i)) =
    (cert : CertValue) × IsCertOf bytes (Ok cert) × IsHeld cert (Err (r.CertFalse part i))
EndSays bytes (Err r.NotACertificate) = IsCertOf bytes (Err r.NotACertificate)
EndSays bytes (Err r.Memory) = ⊤
EndSays bytes (Err refusal) = ⊥

-- the head of a certificate that was read, holds and claims the truth; or why there is none
abbrev pub ReadsHead : List ℕ → Moment → Moment → Result Head Refusal → Type 0
ReadsHead name before after (Ok head) = (cert : CertValue)
    × Reads (check_reads name) before after (Ok cert) × IsHeadOf cert head × CertClaim cert
ReadsHead name before after (Err refusal) = Reads (check_reads name) before after (Err refusal)

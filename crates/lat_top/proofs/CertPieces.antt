-- A certificate that is read and checked piece by piece.
use Rattle.std.proofs.Common.{ℕ, List, Result, Ok, Err}
use Rattle.cert_stream.specs.declared.head.Head.{Head}
use Rattle.lat_top.specs.declared.refusal.Refusal.{Refusal}
use Rattle.lat_top.specs.declared.refusal.Refusal.TheVariants as r
use Rattle.lat_top.specs.CertFile.{IsCertOf, cert_in_file}
use Rattle.lat_top.specs.CertPieces.{EndSays, ReadsHead}
use Rattle.lat_top.specs.CheckJob.{IsHeld, check_reads}
use Rattle.lat_top.specs.Limits.{cert_limit}
use Rattle.lat_top.specs.Script.{Moment, Reads, find, read}
use Rattle.lat_top.proofs.Scripts.{memory, reads_err, reads_found}

-- what was read, and then what the end of its check says
pub reads_head : (name : List ℕ) (before after : Moment) (bytes : List ℕ)
    (result : Result Head Refusal) → Reads (read name cert_limit) before after (Ok bytes)
    → EndSays bytes result → ReadsHead name before after result
reads_head name before after bytes (Ok head) reads says =
    let cert = says.0 in (
      cert,
      reads_found (cert_in_file name) IsHeld before after cert (Ok cert)
          (reads_found (read name cert_limit) IsCertOf before after bytes (Ok cert) reads says.1) says.2,
      says.3,
      says.4,
    )
reads_head name before after bytes (Err (r.CertFalse part i)) reads says =
    let cert = says.0 in
    reads_found (cert_in_file name) IsHeld before after cert (Err (r.CertFalse part i))
    (reads_found (read name cert_limit) IsCertOf before after bytes (Ok cert) reads says.1) says.2
reads_head name before after bytes (Err r.NotACertificate) reads says =
    reads_err (cert_in_file name) (λ cert. find (IsHeld cert)) before after r.NotACertificate
    (reads_found (read name cert_limit) IsCertOf before after bytes (Err r.NotACertificate) reads says)
reads_head name before after bytes (Err r.Memory) reads says = record {
  gives = memory (check_reads name) before.files _;
  files = reads.files;
  faults = reads.faults;
}
reads_head name before after bytes (Err refusal) reads says = absurd says

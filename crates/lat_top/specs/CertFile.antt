-- The certificate in a file.
use Rattle.std.specs.Prelude.{◌≡◌, ℕ, List, Result, Ok, Err}
use Rattle.cert_format.specs.Files.{IsCert, cert_text}
use Rattle.cert_types.specs.CertValue.{CertValue}
use Rattle.lat_top.specs.declared.refusal.Refusal.{Refusal}
use Rattle.lat_top.specs.declared.refusal.Refusal.TheVariants as r
use Rattle.lat_top.specs.Limits.{cert_limit}
use Rattle.lat_top.specs.Script.{Script, ◌>>=◌, find, read}

-- the bytes spell a certificate, or none
abbrev pub IsCertOf : List ℕ → Result CertValue Refusal → Type 0
IsCertOf bytes (Ok cert) = IsCert cert × (bytes ≡ cert_text cert)
IsCertOf bytes (Err r.NotACertificate) =
    (cert : CertValue) → IsCert cert → ¬ (bytes ≡ cert_text cert)
IsCertOf bytes (Err refusal) = ⊥

-- the certificate that a file spells
abbrev pub cert_in_file : List ℕ → Script CertValue
cert_in_file name = do
  bytes ← read name cert_limit
  find (IsCertOf bytes)

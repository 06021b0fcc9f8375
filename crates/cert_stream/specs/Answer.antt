-- What a stream answers at its end.
use Rattle.std.specs.Prelude.{◌≡◌, ◌++◌, ℕ, List, length, Option, Some, None, option_map}
use Rattle.lat_base.specs.Shape.{target_count}
use Rattle.cert_check.specs.Checked.{IsChecked}
use Rattle.cert_format.specs.Files.{cert_text, IsCert}
use Rattle.cert_types.specs.declared.checked.Checked.{Checked}
use Rattle.cert_types.specs.declared.checked.Checked.TheVariants.{Yes, No}
use Rattle.cert_types.specs.declared.part.Part.{Part}
use Rattle.cert_types.specs.declared.verdict.Verdict.{Verdict}
use Rattle.cert_types.specs.Claim.{CertClaim}
use Rattle.cert_types.specs.CertValue.{CertValue}
use Rattle.cert_stream.specs.declared.head.Head.{Head}

-- what a check says, by the first fault
abbrev pub checked_of : Verdict → Option (Part × ℕ) → Checked
checked_of verdict None = Yes verdict
checked_of verdict (Some fault) = No fault.0 fault.1

-- the head of a certificate: its names, its number of targets, its verdict, and the number of
-- ballots of its deck, or none where it has no deck
pub record IsHeadOf (cert : CertValue) (head : Head) : Type 0 where
  pub names : head.names ≡ cert.names
  pub targets : head.targets ≡ target_count cert.contests
  pub verdict : head.verdict ≡ cert.verdict
  pub best : head.best ≡ option_map (λ p. length p.deck.ballots) cert.proved

-- the bytes are a certificate's, this is its head, and so its check says; a yes implies what the
-- certificate claims
pub record IsAnswer (bytes : List ℕ) (head : Head) (checked : Checked) : Type 0 where
  pub cert : CertValue
  pub is_cert : IsCert cert
  pub spelled : bytes ≡ cert_text cert
  pub is_head : IsHeadOf cert head
  pub is_checked : IsChecked cert checked
  pub claim : (verdict : Verdict) → checked ≡ Yes verdict → CertClaim cert

-- the bytes are no certificate's
abbrev pub IsNone : List ℕ → Type 0
IsNone bytes = (cert : CertValue) → IsCert cert → bytes ≡ cert_text cert → ⊥

-- no certificate begins with the bytes
abbrev pub IsNoFront : List ℕ → Type 0
IsNoFront bytes = (more : List ℕ) → IsNone (bytes ++ more)

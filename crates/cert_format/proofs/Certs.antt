-- A certificate is read exactly.
use Rattle.std.proofs.Common.{◌≡◌, ◌++◌, [], ℕ, List, Some, Result, Err, refl, ap}
use Rattle.cert_fields.specs.declared.fault.CertFault.{CertFault}
use Rattle.cert_fields.specs.declared.fault.CertFault.TheVariants.{NotACertificate}
use Rattle.cert_fields.specs.Exact.{Exact}
use Rattle.cert_fields.specs.Head.{Head, head_text, IsHead, head_at}
use Rattle.cert_fields.specs.Reading.{Gives}
use Rattle.cert_fields.proofs.Exact.{pair_exact}
use Rattle.cert_fields.proofs.Heads.{head_exact}
use Rattle.cert_types.specs.CertValue.{CertValue}
use Rattle.cert_types.specs.Fitting.{lower_size}
use Rattle.cert_format.specs.Files.{cert_magic, head_of_cert, cert_text, IsCert}
use Rattle.cert_format.specs.Reading.{CertBody, cert_body_at, cert_parts_at, file_at}
use Rattle.cert_format.proofs.Bodies.{cert_body_text, CertBodyFits, cert_body_exact}
use Rattle.cert_format.proofs.Kept.{deck_fits, deck_field, lower_fits, lower_field, deck_back, lower_back}
use Rattle.cert_format.proofs.Names.{named_fit}
use Rattle.cert_format.proofs.Wholes.{whole_takes, whole_law, read_refused}

abbrev pub CertParts : Type 0
CertParts = Head × CertBody

abbrev pub to_cert : CertParts → CertValue
to_cert p = record { names = p.0.names; contests = p.0.contests; rules = p.0.rules; verdict = p.1.0.0; proved = p.1.0.1; lower = p.1.1 }

abbrev pub from_cert : CertValue → CertParts
from_cert v = (head_of_cert v, ((v.verdict, v.proved), v.lower))

abbrev PartsFit : CertParts → Type 0
PartsFit p = IsHead p.0 × CertBodyFits p.0.contests p.1

abbrev parts_text : CertParts → List ℕ
parts_text p = head_text p.0 ++ cert_body_text p.1

parts_exact : Exact cert_parts_at PartsFit parts_text
parts_exact = pair_exact head_at (λ h. cert_body_at h.contests) IsHead (λ h. CertBodyFits h.contests) head_text (λ _. cert_body_text) head_exact (λ h. cert_body_exact h.contests)

there : (p : CertParts) → PartsFit p → IsCert (to_cert p)
there p f = record {
  head = f.0;
  kept = record {
    named = named_fit p.0.names.contests p.0.contests f.0.named;
    limits = f.1.0.0;
    deck_fits = deck_fits p.0.contests p.1.0.0 p.1.0.1 f.1.0.1;
    lower_fits = lower_fits p.0.contests (lower_size p.1.0.0) p.1.1 f.1.1;
  };
  deck_field = deck_field p.0.contests p.1.0.0 p.1.0.1 f.1.0.0 f.1.0.1;
  lower_field = lower_field p.0.contests (lower_size p.1.0.0) p.1.1 f.1.1;
}

back : (v : CertValue) → IsCert v → PartsFit (from_cert v)
back v f = (f.head, ((f.kept.limits, deck_back v.contests v.verdict v.proved f.kept.deck_fits f.deck_field), lower_back v.contests (lower_size v.verdict) v.lower f.kept.lower_fits f.lower_field))

-- what is read is a certificate, and the bytes are its spelling
pub cert_found : (bytes : List ℕ) (p : CertParts) → file_at cert_magic cert_parts_at bytes ≡ Some p
    → IsCert (to_cert p) × (bytes ≡ cert_text (to_cert p))
cert_found bytes p e = let h = whole_takes cert_magic cert_parts_at PartsFit parts_text parts_exact refl bytes p e in (there p h.0, h.1)

-- what is refused spells none
pub cert_refused : {X : Type 0} (view : X → CertParts) (r : Result X CertFault) (bytes : List ℕ)
    → Gives view r (file_at cert_magic cert_parts_at bytes)
    → r ≡ Err NotACertificate → (v : CertValue) → IsCert v → bytes ≡ cert_text v → ⊥
cert_refused view r bytes h e v f s = read_refused cert_magic cert_parts_at PartsFit parts_text parts_exact refl view r bytes h e (from_cert v) (back v f) s

pub cert_law : (v w : CertValue) (more : List ℕ) → IsCert v → IsCert w
    → cert_text v ++ more ≡ cert_text w → (v ≡ w) × (more ≡ [])
cert_law v w more f g e =
    let h = whole_law cert_magic cert_parts_at PartsFit parts_text parts_exact refl (from_cert v) (from_cert w) more (back v f) (back w g) e in
    (ap to_cert h.0, h.1)

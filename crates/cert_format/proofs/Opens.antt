-- An open file is read exactly.
use Rattle.std.proofs.Common.{◌≡◌, ◌++◌, [], ℕ, List, Some, Result, Err, refl, ap, arith}
use Rattle.cert_fields.specs.declared.fault.CertFault.{CertFault}
use Rattle.cert_fields.specs.declared.fault.CertFault.TheVariants.{NotACertificate}
use Rattle.cert_fields.specs.Exact.{Exact}
use Rattle.cert_fields.specs.Head.{Head, head_text, IsHead, head_at}
use Rattle.cert_fields.specs.Reading.{Gives}
use Rattle.cert_fields.proofs.Exact.{pair_exact}
use Rattle.cert_fields.proofs.Heads.{head_exact}
use Rattle.cert_types.specs.Fitting.{size_below}
use Rattle.cert_types.specs.OpenValue.{OpenValue}
use Rattle.cert_format.specs.Files.{open_magic, head_of_open, open_text, IsOpen}
use Rattle.cert_format.specs.Reading.{OpenBody, open_body_at, open_parts_at, file_at}
use Rattle.cert_format.proofs.Bodies.{limits, within, open_body_text, OpenBodyFits, open_body_exact}
use Rattle.cert_format.proofs.Kept.{best_fits, best_field, lower_fits, lower_field, license_fits, license_field, best_back, lower_back, license_back}
use Rattle.cert_format.proofs.Names.{named_fit}
use Rattle.cert_format.proofs.Wholes.{whole_takes, whole_law, read_refused}

abbrev pub OpenParts : Type 0
OpenParts = Head × OpenBody

abbrev pub to_open : OpenParts → OpenValue
to_open p = record {
  names = p.0.names;
  contests = p.0.contests;
  rules = p.0.rules;
  max = p.1.0.0.0.0;
  from = p.1.0.0.0.1;
  lower = p.1.0.1;
  best = p.1.0.0.1;
  license = p.1.1;
}

abbrev pub from_open : OpenValue → OpenParts
from_open v = (head_of_open v, ((((v.max, v.from), v.best), v.lower), v.license))

abbrev PartsFit : OpenParts → Type 0
PartsFit p = IsHead p.0 × OpenBodyFits p.0.contests p.1

abbrev parts_text : OpenParts → List ℕ
parts_text p = head_text p.0 ++ open_body_text p.1

parts_exact : Exact open_parts_at PartsFit parts_text
parts_exact = pair_exact head_at (λ h. open_body_at h.contests) IsHead (λ h. OpenBodyFits h.contests) head_text (λ _. open_body_text) head_exact (λ h. open_body_exact h.contests)

there : (p : OpenParts) → PartsFit p → IsOpen (to_open p)
there p f =
    let max = limits 1 1024 p.1.0.0.0.0 f.1.0.0.0.0.1 in
    let from = limits 0 p.1.0.0.0.0 p.1.0.0.0.1 f.1.0.0.0.1.1 in
    record {
      head = f.0;
      kept = record {
        named = named_fit p.0.names.contests p.0.contests f.0.named;
        some = max.0;
        few = max.1;
        within = from.1;
        lower_fits = lower_fits p.0.contests (size_below p.1.0.0.0.1) p.1.0.1 f.1.0.1;
        best_fits = best_fits p.0.contests p.1.0.0.1 f.1.0.0.1;
        license_fits = license_fits p.0.contests p.1.0.0.0.1 p.1.1 f.1.1;
      };
      best_field = best_field p.0.contests p.1.0.0.1 f.1.0.0.1;
      lower_field = lower_field p.0.contests (size_below p.1.0.0.0.1) p.1.0.1 f.1.0.1;
      license_field = license_field p.0.contests p.1.0.0.0.1 p.1.1 (omega (arith, max.1, from.1)) f.1.1;
    }

back : (v : OpenValue) → IsOpen v → PartsFit (from_open v)
back v f = (
  f.head,
  (
    (
      (
        ((tt, within 1 1024 v.max f.kept.some f.kept.few), (tt, within 0 v.max v.from (omega arith) f.kept.within)),
        best_back v.contests v.best f.best_field,
      ),
      lower_back v.contests (size_below v.from) v.lower f.kept.lower_fits f.lower_field,
    ),
    license_back v.contests v.from v.license f.kept.license_fits f.license_field,
  ),
)

-- what is read is an open file, and the bytes are its spelling
pub open_found : (bytes : List ℕ) (p : OpenParts) → file_at open_magic open_parts_at bytes ≡ Some p
    → IsOpen (to_open p) × (bytes ≡ open_text (to_open p))
open_found bytes p e = let h = whole_takes open_magic open_parts_at PartsFit parts_text parts_exact refl bytes p e in (there p h.0, h.1)

-- what is refused spells none
pub open_refused : {X : Type 0} (view : X → OpenParts) (r : Result X CertFault) (bytes : List ℕ)
    → Gives view r (file_at open_magic open_parts_at bytes)
    → r ≡ Err NotACertificate → (v : OpenValue) → IsOpen v → bytes ≡ open_text v → ⊥
open_refused view r bytes h e v f s = read_refused open_magic open_parts_at PartsFit parts_text parts_exact refl view r bytes h e (from_open v) (back v f) s

pub open_law : (v w : OpenValue) (more : List ℕ) → IsOpen v → IsOpen w
    → open_text v ++ more ≡ open_text w → (v ≡ w) × (more ≡ [])
open_law v w more f g e =
    let h = whole_law open_magic open_parts_at PartsFit parts_text parts_exact refl (from_open v) (from_open w) more (back v f) (back w g) e in
    (ap to_open h.0, h.1)

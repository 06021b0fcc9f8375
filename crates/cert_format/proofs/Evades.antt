-- An evade file is read exactly.
use Rattle.std.proofs.Common.{◌≡◌, ◌++◌, [], ℕ, List, Some, Result, Err, refl, ap}
use Rattle.lat_base.specs.Shape.{target_count}
use Rattle.cert_fields.specs.declared.fault.CertFault.{CertFault}
use Rattle.cert_fields.specs.declared.fault.CertFault.TheVariants.{NotACertificate}
use Rattle.cert_fields.specs.Exact.{Exact}
use Rattle.cert_fields.specs.Head.{Head, head_text, IsHead, head_at}
use Rattle.cert_fields.specs.Reading.{Gives}
use Rattle.cert_fields.proofs.Exact.{pair_exact}
use Rattle.cert_fields.proofs.Heads.{head_exact}
use Rattle.cert_types.specs.declared.proved.Proved.{Proved}
use Rattle.cert_format.specs.Fields.{sized_text}
use Rattle.cert_format.specs.Files.{EvadeValue, evade_magic, head_of_evade, evade_text, IsEvade}
use Rattle.cert_format.specs.Reading.{sized_at, evade_parts_at, file_at}
use Rattle.cert_format.proofs.Bodies.{SizedFits, sized_exact}
use Rattle.cert_format.proofs.Wholes.{whole_takes, whole_law, read_refused}

abbrev pub EvadeParts : Type 0
EvadeParts = Head × Proved

abbrev pub to_evade : EvadeParts → EvadeValue
to_evade p = record { names = p.0.names; contests = p.0.contests; rules = p.0.rules; deck = p.1.deck; tree = p.1.robust }

abbrev from_evade : EvadeValue → EvadeParts
from_evade v = (head_of_evade v, record { deck = v.deck; robust = v.tree })

abbrev PartsFit : EvadeParts → Type 0
PartsFit p = IsHead p.0 × SizedFits (target_count p.0.contests) p.1

abbrev parts_text : EvadeParts → List ℕ
parts_text p = head_text p.0 ++ sized_text p.1

parts_exact : Exact evade_parts_at PartsFit parts_text
parts_exact = pair_exact head_at (λ h. sized_at (target_count h.contests)) IsHead (λ h. SizedFits (target_count h.contests)) head_text (λ _. sized_text) head_exact (λ h. sized_exact (target_count h.contests))

there : (p : EvadeParts) → PartsFit p → IsEvade (to_evade p)
there p f = record { head = f.0; attacked = record { rows = f.1.1.0; few = f.1.0; tree = f.1.1.1 } }

back : (v : EvadeValue) → IsEvade v → PartsFit (from_evade v)
back v f = (f.head, (f.attacked.few, (f.attacked.rows, f.attacked.tree)))

-- what is read is an evade file, and the bytes are its spelling
pub evade_found : (bytes : List ℕ) (p : EvadeParts)
    → file_at evade_magic evade_parts_at bytes ≡ Some p
    → IsEvade (to_evade p) × (bytes ≡ evade_text (to_evade p))
evade_found bytes p e = let h = whole_takes evade_magic evade_parts_at PartsFit parts_text parts_exact refl bytes p e in (there p h.0, h.1)

-- what is refused spells none
pub evade_refused : {X : Type 0} (view : X → EvadeParts) (r : Result X CertFault) (bytes : List ℕ)
    → Gives view r (file_at evade_magic evade_parts_at bytes)
    → r ≡ Err NotACertificate → (v : EvadeValue) → IsEvade v → bytes ≡ evade_text v → ⊥
evade_refused view r bytes h e v f s = read_refused evade_magic evade_parts_at PartsFit parts_text parts_exact refl view r bytes h e (from_evade v) (back v f) s

pub evade_law : (v w : EvadeValue) (more : List ℕ) → IsEvade v → IsEvade w
    → evade_text v ++ more ≡ evade_text w → (v ≡ w) × (more ≡ [])
evade_law v w more f g e =
    let h = whole_law evade_magic evade_parts_at PartsFit parts_text parts_exact refl (from_evade v) (from_evade w) more (back v f) (back w g) e in
    (ap to_evade h.0, h.1)

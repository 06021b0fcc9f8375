-- When a certificate and an open file hold, and the first fault of one that doesn't.
use Rattle.std.specs.Prelude.{◌≡◌, ◌⊎◌, ℕ, false, Option, Some, List, IfSome}
use Rattle.lat_base.specs.declared.contest.Contest.{Contest}
use Rattle.lat_base.specs.Rules.{RuleSet, Obeys}
use Rattle.cert_types.specs.declared.part.Part.{Part}
use Rattle.cert_types.specs.declared.part.Part.TheVariants.{Rules, Robust, Lower, License}
use Rattle.cert_types.specs.declared.proved.Proved.{Proved}
use Rattle.cert_types.specs.CertValue.{CertValue}
use Rattle.cert_types.specs.License.{IsLicense, IsLicenseFault}
use Rattle.cert_types.specs.Lower.{IsLower, IsLowerFault}
use Rattle.cert_types.specs.LowerPart.{LowerPart}
use Rattle.cert_types.specs.OpenValue.{OpenValue}
use Rattle.cert_types.specs.Proved.{IsProved, IsRobustFault}

-- a deck and a lower part hold, each if it is there
pub record PartsHold (contests : List Contest) (rules : RuleSet) (proved : Option Proved)
    (lower : Option LowerPart) : Type 0 where
  pub deck_holds : IfSome proved (IsProved contests rules)
  pub lower_holds : IfSome lower (IsLower contests rules)

-- the first fault of a deck with its tree: the deck breaks a rule; else a node of the tree doesn't
-- hold
abbrev pub IsDeckFault : List Contest → RuleSet → Proved → Part → ℕ → Type 0
IsDeckFault contests rules p Rules i = ¬ Obeys contests rules p.deck.ballots × (i ≡ 0)
IsDeckFault contests rules p Robust i =
    Obeys contests rules p.deck.ballots × IsRobustFault false contests p.deck.ballots p.robust i
IsDeckFault contests rules p part i = ⊥

-- the first fault of a deck and a lower part: that of the deck; else a node of the lower part's
-- tree doesn't hold
abbrev pub IsPartsFault : List Contest → RuleSet → Option Proved → Option LowerPart → Part → ℕ
    → Type 0
IsPartsFault contests rules proved lower part i =
    ((p : Proved) × (proved ≡ Some p) × IsDeckFault contests rules p part i)
    ⊎ (IfSome proved (IsProved contests rules)
    × (l : LowerPart) × (lower ≡ Some l) × (part ≡ Lower) × IsLowerFault contests rules l i)

-- a certificate holds
abbrev pub CertHolds : CertValue → Type 0
CertHolds cert = PartsHold cert.contests cert.rules cert.proved cert.lower

-- the first fault of a certificate
abbrev pub IsCertFault : CertValue → Part → ℕ → Type 0
IsCertFault cert part i = IsPartsFault cert.contests cert.rules cert.proved cert.lower part i

-- an open file holds: its best deck, its lower part and its license do
pub record OpenHolds (file : OpenValue) : Type 0 where
  pub parts_hold : PartsHold file.contests file.rules file.best file.lower
  pub license_holds : IsLicense file.contests file.rules file.from file.license

-- the first fault of an open file: that of its best deck and its lower part, else that of its
-- license
abbrev pub IsOpenFault : OpenValue → Part → ℕ → Type 0
IsOpenFault file part i =
    IsPartsFault file.contests file.rules file.best file.lower part i
    ⊎ (PartsHold file.contests file.rules file.best file.lower
    × (part ≡ License) × IsLicenseFault file.contests file.rules file.from file.license i)

-- The bytes of certificates, open files and evade files: one spelling for each value that has one.
use Rattle.std.specs.Prelude.{◌∷◌, ◌++◌, [], ℕ, List, length, IfSome}
use Rattle.lat_base.specs.declared.contest.Contest.{Contest}
use Rattle.lat_base.specs.Names.{StyleNames}
use Rattle.lat_base.specs.Rules.{RuleSet}
use Rattle.lat_base.specs.Shape.{target_count}
use Rattle.lat_ballots.specs.Deck.{Ballots}
use Rattle.evade_space.specs.declared.skipped.Skipped.{Skipped}
use Rattle.tree_core.specs.declared.node.Node.{Node}
use Rattle.cert_fields.specs.Head.{Head, head_text, IsHead}
use Rattle.cert_fields.specs.Spelling.{u16_text}
use Rattle.cert_types.specs.CertValue.{CertValue, IsCertValue}
use Rattle.cert_types.specs.OpenValue.{OpenValue, IsOpenValue}
use Rattle.cert_format.specs.Fields.{verdict_text, attacked_text, best_text, deck_part_text}
use Rattle.cert_format.specs.Fields.{lower_part_text, license_text}
use Rattle.cert_format.specs.Fields.{IsAttackedField, IsProvedField, IsLowerField, IsLicenseField}

-- LATCERT1, LATOPEN1 and LATEVAD1 in ASCII
abbrev pub cert_magic : List ℕ
cert_magic = 76 ∷ 65 ∷ 84 ∷ 67 ∷ 69 ∷ 82 ∷ 84 ∷ 49 ∷ []

abbrev pub open_magic : List ℕ
open_magic = 76 ∷ 65 ∷ 84 ∷ 79 ∷ 80 ∷ 69 ∷ 78 ∷ 49 ∷ []

abbrev pub evade_magic : List ℕ
evade_magic = 76 ∷ 65 ∷ 84 ∷ 69 ∷ 86 ∷ 65 ∷ 68 ∷ 49 ∷ []

-- ---- certificates

abbrev pub head_of_cert : CertValue → Head
head_of_cert cert = record { names = cert.names; contests = cert.contests; rules = cert.rules }

-- head, verdict, deck and lower part
abbrev pub cert_text : CertValue → List ℕ
cert_text cert =
    cert_magic ++ (head_text (head_of_cert cert)
    ++ ((verdict_text cert.verdict ++ deck_part_text cert.verdict cert.proved)
    ++ lower_part_text cert.lower))

-- the head is one, the parts are there that the verdict needs, and each of them has a spelling
pub record IsCert (cert : CertValue) : Type 0 where
  pub head : IsHead (head_of_cert cert)
  pub kept : IsCertValue cert
  pub deck_field : IfSome cert.proved (IsProvedField cert.contests)
  pub lower_field : IfSome cert.lower IsLowerField

-- ---- open files

abbrev pub head_of_open : OpenValue → Head
head_of_open file = record { names = file.names; contests = file.contests; rules = file.rules }

-- head, two numbers, best deck, lower part and license
abbrev pub open_text : OpenValue → List ℕ
open_text file =
    open_magic ++ (head_text (head_of_open file)
    ++ ((((u16_text file.max ++ u16_text file.from) ++ best_text file.best)
    ++ lower_part_text file.lower) ++ license_text file.license))

pub record IsOpen (file : OpenValue) : Type 0 where
  pub head : IsHead (head_of_open file)
  pub kept : IsOpenValue file
  pub best_field : IfSome file.best (IsProvedField file.contests)
  pub lower_field : IfSome file.lower IsLowerField
  pub license_field : IsLicenseField file.contests file.license

-- ---- evade files

-- a style, a deck of it, and the tree of an attack on the deck
pub record EvadeValue : Type 0 where
  pub names : StyleNames
  pub contests : List Contest
  pub rules : RuleSet
  pub deck : Ballots
  pub tree : List (Node ℕ Skipped)

-- an evade file of these parts
abbrev pub evade_of : StyleNames → List Contest → RuleSet → Ballots → List (Node ℕ Skipped)
    → EvadeValue
evade_of names contests rules deck tree =
    record { names = names; contests = contests; rules = rules; deck = deck; tree = tree }

abbrev pub head_of_evade : EvadeValue → Head
head_of_evade file = record { names = file.names; contests = file.contests; rules = file.rules }

-- head, number of ballots, rows and tree
abbrev pub evade_text : EvadeValue → List ℕ
evade_text file =
    evade_magic ++ (head_text (head_of_evade file)
    ++ (u16_text (length file.deck.ballots) ++ attacked_text file.deck file.tree))

pub record IsEvade (file : EvadeValue) : Type 0 where
  pub head : IsHead (head_of_evade file)
  pub attacked : IsAttackedField (target_count file.contests) file.deck file.tree

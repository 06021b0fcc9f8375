-- A certificate, as contracts see it, and what its type keeps.
use Rattle.std.specs.Prelude.{List, Option}
use Rattle.lat_base.specs.declared.contest.Contest.{Contest}
use Rattle.lat_base.specs.Names.{StyleNames, NamesFit}
use Rattle.lat_base.specs.Rules.{RuleSet}
use Rattle.cert_types.specs.declared.proved.Proved.{Proved}
use Rattle.cert_types.specs.declared.verdict.Verdict.{Verdict}
use Rattle.cert_types.specs.Fitting.{IsVerdict, lower_size, DeckFits, LowerFits}
use Rattle.cert_types.specs.LowerPart.{LowerPart}

pub record CertValue : Type 0 where
  pub names : StyleNames
  pub contests : List Contest
  pub rules : RuleSet
  pub verdict : Verdict
  pub proved : Option Proved
  pub lower : Option LowerPart

-- a certificate of these parts
abbrev pub cert_of : StyleNames → List Contest → RuleSet → Verdict → Option Proved
    → Option LowerPart → CertValue
cert_of names contests rules verdict proved lower =
    record {
      names = names;
      contests = contests;
      rules = rules;
      verdict = verdict;
      proved = proved;
      lower = lower;
    }

-- the parts are there that the verdict needs, and they fit the style
pub record IsCertValue (cert : CertValue) : Type 0 where
  pub named : NamesFit cert.names.contests cert.contests
  pub limits : IsVerdict cert.verdict
  pub deck_fits : DeckFits cert.contests cert.verdict cert.proved
  pub lower_fits : LowerFits cert.contests (lower_size cert.verdict) cert.lower

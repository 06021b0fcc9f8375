-- The certificate of an answer has the parts that it must have, and holds; so does the open file.
use Rattle.std.proofs.Common.{◌≤◌, ℕ, zero, suc, List, length, Option, Some, None, refl, arith}
use Rattle.std.specs.Prelude.{IfSome}
use Rattle.lat_base.specs.declared.contest.Contest.{Contest}
use Rattle.lat_base.specs.Names.{NamesFit}
use Rattle.lat_base.specs.Rules.{RuleSet}
use Rattle.cert_types.specs.CertValue.{IsCertValue}
use Rattle.cert_types.specs.Fitting.{DeckFits, LowerFits, size_below}
use Rattle.cert_types.specs.declared.verdict.Verdict.TheVariants.{Bounds}
use Rattle.cert_types.specs.Holding.{CertHolds, OpenHolds}
use Rattle.cert_types.specs.License.{IsLicense}
use Rattle.cert_types.specs.Lower.{IsLower}
use Rattle.cert_types.specs.LowerPart.{LowerPart}
use Rattle.cert_types.specs.OpenValue.{BestFits, IsOpenValue, LicenseFits}
use Rattle.cert_types.specs.Proved.{IsProved}
use Rattle.cert_types.specs.declared.license.License.{License}
use Rattle.cert_types.specs.declared.license.License.TheVariants.{Tree, Deck}
use Rattle.cert_types.specs.declared.proved.Proved.{Proved}
use Rattle.planner.specs.Answer.{IsAnswer, IsBest, IsSpent}
use Rattle.planner.specs.License.{IsSpentLicense}
use Rattle.planner.specs.Lower.{IsLowerFor}
use Rattle.planner.specs.declared.answer.Answer.{Answer}
use Rattle.planner.specs.declared.answer.Answer.TheVariants.{Least, NoneWithin, Spent}
use Rattle.planner.specs.declared.kept.Kept.{Kept}
use Rattle.lat_top.specs.declared.asked_style.AskedStyle.{AskedStyle}
use Rattle.lat_top.specs.PlanAnswer.{answer_cert, kept_open}

lower_fits : (contests : List Contest) (rules : RuleSet) (k : ℕ) (lower : Option LowerPart)
    → IsLowerFor contests rules k lower → LowerFits contests (size_below k) lower
lower_fits contests rules zero None h = tt
lower_fits contests rules (suc k) None h = absurd (omega (arith, h))
lower_fits contests rules zero (Some lower) h = absurd (omega (arith, h.0))
lower_fits contests rules (suc k) (Some lower) h = (h.1.is_part, omega (arith, h.0))

lower_holds : (contests : List Contest) (rules : RuleSet) (k : ℕ) (lower : Option LowerPart)
    → IsLowerFor contests rules k lower → IfSome lower (IsLower contests rules)
lower_holds contests rules k None h = tt
lower_holds contests rules k (Some lower) h = h.1

best_fits : (contests : List Contest) (rules : RuleSet) (from max : ℕ) (best : Option Proved)
    → IsBest contests rules from max best → BestFits contests best
best_fits contests rules from max None h = tt
best_fits contests rules from max (Some best) h = h.0.is_proved.targets

bounds_fit : (contests : List Contest) (rules : RuleSet) (from max : ℕ) (best : Option Proved)
    → IsBest contests rules from max best → DeckFits contests (Bounds from) best
bounds_fit contests rules from max None h = tt
bounds_fit contests rules from max (Some best) h = h.0.is_proved.targets

best_holds : (contests : List Contest) (rules : RuleSet) (from max : ℕ) (best : Option Proved)
    → IsBest contests rules from max best → IfSome best (IsProved contests rules)
best_holds contests rules from max None h = tt
best_holds contests rules from max (Some best) h = h.0.is_proved

license_fits : (contests : List Contest) (rules : RuleSet) (from budget : ℕ) (license : License)
    → IsSpentLicense contests rules from budget license → LicenseFits contests from license
license_fits contests rules from budget (Tree nodes) h = tt
license_fits contests rules from budget (Deck deck nodes) h = (h.0.targets, h.0.size)

license_holds : (contests : List Contest) (rules : RuleSet) (from budget : ℕ) (license : License)
    → IsSpentLicense contests rules from budget license → IsLicense contests rules from license
license_holds contests rules from budget (Tree nodes) h = (h.lists, h.checks)
license_holds contests rules from budget (Deck deck nodes) h =
    (h.0, record { lists = h.1.lists; checks = h.1.checks })

-- the certificate of an answer has the parts that its verdict needs
pub cert_value : (max budget : ℕ) (style : AskedStyle) (answer : Answer)
    → NamesFit style.names.contests style.shape → 1 ≤ max → max ≤ 1024
    → IsAnswer style.shape style.rules max budget answer
    → IsCertValue (answer_cert max style answer)
cert_value max budget style (Least proved lower) fits some few h = record {
  named = fits;
  limits = omega (arith, few, h.within);
  deck_fits = (h.is_proved.targets, refl);
  lower_fits = lower_fits style.shape style.rules (length proved.deck.ballots) lower h.lower_for;
}
cert_value max budget style (NoneWithin lower) fits some few h = record {
  named = fits;
  limits = (some, few);
  deck_fits = tt;
  lower_fits = (h.is_lower.is_part, h.size);
}
cert_value max budget style (Spent kept) fits some few h = record {
  named = fits;
  limits = omega (arith, few, h.within);
  deck_fits = bounds_fit style.shape style.rules kept.from max kept.best h.is_best;
  lower_fits = lower_fits style.shape style.rules kept.from kept.lower h.lower_for;
}

pub cert_holds : (max budget : ℕ) (style : AskedStyle) (answer : Answer)
    → IsAnswer style.shape style.rules max budget answer → CertHolds (answer_cert max style answer)
cert_holds max budget style (Least proved lower) h = record {
  deck_holds = h.is_proved;
  lower_holds = lower_holds style.shape style.rules (length proved.deck.ballots) lower h.lower_for;
}
cert_holds max budget style (NoneWithin lower) h =
    record { deck_holds = tt; lower_holds = h.is_lower }
cert_holds max budget style (Spent kept) h = record {
  deck_holds = best_holds style.shape style.rules kept.from max kept.best h.is_best;
  lower_holds = lower_holds style.shape style.rules kept.from kept.lower h.lower_for;
}

-- the open file of an answer that leaves sizes open has the parts that it must have
pub open_value : (max budget : ℕ) (style : AskedStyle) (kept : Kept)
    → NamesFit style.names.contests style.shape → 1 ≤ max → max ≤ 1024
    → IsSpent style.shape style.rules max budget kept → IsOpenValue (kept_open max style kept)
open_value max budget style kept fits some few h = record {
  named = fits;
  some = some;
  few = few;
  within = h.within;
  lower_fits = lower_fits style.shape style.rules kept.from kept.lower h.lower_for;
  best_fits = best_fits style.shape style.rules kept.from max kept.best h.is_best;
  license_fits = license_fits style.shape style.rules kept.from budget kept.license h.is_license;
}

pub open_holds : (max budget : ℕ) (style : AskedStyle) (kept : Kept)
    → IsSpent style.shape style.rules max budget kept → OpenHolds (kept_open max style kept)
open_holds max budget style kept h = record {
  parts_hold = cert_holds max budget style (Spent kept) h;
  license_holds = license_holds style.shape style.rules kept.from budget kept.license h.is_license;
}

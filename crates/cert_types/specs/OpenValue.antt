-- An open file, as contracts see it, and what its type keeps.
use Rattle.std.specs.Prelude.{◌≡◌, ◌≤◌, ℕ, List, length, Option, Some, None}
use Rattle.lat_base.specs.declared.limits.TheConstants.{MOST_BALLOTS}
use Rattle.lat_base.specs.declared.contest.Contest.{Contest}
use Rattle.lat_base.specs.Names.{StyleNames, NamesFit}
use Rattle.lat_base.specs.Rules.{RuleSet}
use Rattle.lat_base.specs.Shape.{target_count}
use Rattle.cert_types.specs.declared.license.License.{License}
use Rattle.cert_types.specs.declared.license.License.TheVariants.{Tree, Deck}
use Rattle.cert_types.specs.declared.proved.Proved.{Proved}
use Rattle.cert_types.specs.Fitting.{size_below, LowerFits}
use Rattle.cert_types.specs.LowerPart.{LowerPart}

pub record OpenValue : Type 0 where
  pub names : StyleNames
  pub contests : List Contest
  pub rules : RuleSet
  pub max : ℕ
  pub from : ℕ
  pub lower : Option LowerPart
  pub best : Option Proved
  pub license : License

-- an open file of these parts
abbrev pub open_of : StyleNames → List Contest → RuleSet → ℕ → ℕ → Option LowerPart
    → Option Proved → License → OpenValue
open_of names contests rules max from lower best license =
    record {
      names = names;
      contests = contests;
      rules = rules;
      max = max;
      from = from;
      lower = lower;
      best = best;
      license = license;
    }

-- the best deck, if there is one, is of the style's targets
abbrev pub BestFits : List Contest → Option Proved → Type 0
BestFits contests None = Unit {0}
BestFits contests (Some best) = best.deck.targets ≡ target_count contests

-- a deck that was attacked is of the style's targets and has `from` ballots
abbrev pub LicenseFits : List Contest → ℕ → License → Type 0
LicenseFits contests from (Tree tree) = Unit {0}
LicenseFits contests from (Deck deck tree) =
    (deck.targets ≡ target_count contests) × (length deck.ballots ≡ from)

-- the numbers are in range, and the parts fit the style and the numbers
pub record IsOpenValue (file : OpenValue) : Type 0 where
  pub named : NamesFit file.names.contests file.contests
  pub some : 1 ≤ file.max
  pub few : file.max ≤ MOST_BALLOTS
  pub within : file.from ≤ file.max
  pub lower_fits : LowerFits file.contests (size_below file.from) file.lower
  pub best_fits : BestFits file.contests file.best
  pub license_fits : LicenseFits file.contests file.from file.license

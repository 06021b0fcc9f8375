-- What the checks of the parts of a file answer: nothing where a part holds, else its first fault.
use Rattle.std.specs.Prelude.{◌≡◌, ℕ, Bool, true, false, List, Option, Some, None, IfSome}
use Rattle.lat_base.specs.declared.contest.Contest.{Contest}
use Rattle.lat_base.specs.Rules.{RuleSet}
use Rattle.lat_base.specs.Shape.{target_count}
use Rattle.close_rules.specs.declared.label.Label.{Label}
use Rattle.close_rules.specs.declared.reason.Reason.{Reason}
use Rattle.deck_state.specs.PartialDeck.{empty}
use Rattle.deck_space.specs.Steps.{deck_steps}
use Rattle.evade_space.specs.declared.skipped.Skipped.{Skipped}
use Rattle.evade_space.specs.Trees.{IsRobustTree}
use Rattle.tree_core.specs.declared.node.Node.{Node}
use Rattle.tree_core.specs.Checks.{OpenChecks}
use Rattle.tree_core.specs.Places.{IsFirstFault}
use Rattle.tree_core.specs.Reading.{IsTree, tree_of}
use Rattle.cert_types.specs.declared.license.License.{License}
use Rattle.cert_types.specs.declared.license.License.TheVariants.{Tree, Deck}
use Rattle.cert_types.specs.declared.part.Part.{Part}
use Rattle.cert_types.specs.declared.proved.Proved.{Proved}
use Rattle.cert_types.specs.Holding.{PartsHold, IsDeckFault, IsPartsFault}
use Rattle.cert_types.specs.License.{IsLicense, IsLicenseFault, IsOpenRobustTree}
use Rattle.cert_types.specs.Lower.{IsLower, IsLowerFault}
use Rattle.cert_types.specs.LowerPart.{LowerPart}
use Rattle.cert_types.specs.Proved.{IsProved, IsRobustFault}

-- a tree that is to show that a deck is robust
abbrev pub IsRobustAnswer : List Contest → List (List Bool) → List (Node ℕ Skipped) → Option ℕ
    → Type 0
IsRobustAnswer contests deck nodes None = IsRobustTree contests deck nodes
IsRobustAnswer contests deck nodes (Some i) = IsRobustFault false contests deck nodes i

-- the same where open nodes hold
abbrev pub IsOpenRobustAnswer : List Contest → List (List Bool) → List (Node ℕ Skipped)
    → Option ℕ → Type 0
IsOpenRobustAnswer contests deck nodes None = IsOpenRobustTree contests deck nodes
IsOpenRobustAnswer contests deck nodes (Some i) = IsRobustFault true contests deck nodes i

-- a deck with its tree
abbrev pub IsProvedAnswer : List Contest → RuleSet → Proved → Option (Part × ℕ) → Type 0
IsProvedAnswer contests rules proved None = IsProved contests rules proved
IsProvedAnswer contests rules proved (Some fault) =
    IsDeckFault contests rules proved fault.0 fault.1

-- the same, if it is there
abbrev pub IsDeckAnswer : List Contest → RuleSet → Option Proved → Option (Part × ℕ) → Type 0
IsDeckAnswer contests rules proved None = IfSome proved (IsProved contests rules)
IsDeckAnswer contests rules proved (Some fault) =
    (p : Proved) × (proved ≡ Some p) × IsDeckFault contests rules p fault.0 fault.1

-- a lower part
abbrev pub IsLowerAnswer : List Contest → RuleSet → LowerPart → Option ℕ → Type 0
IsLowerAnswer contests rules lower None = IsLower contests rules lower
IsLowerAnswer contests rules lower (Some i) = IsLowerFault contests rules lower i

-- the same, if it is there
abbrev pub IsLowerPartAnswer : List Contest → RuleSet → Option LowerPart → Option ℕ → Type 0
IsLowerPartAnswer contests rules lower None = IfSome lower (IsLower contests rules)
IsLowerPartAnswer contests rules lower (Some i) =
    (l : LowerPart) × (lower ≡ Some l) × IsLowerFault contests rules l i

-- a deck and a lower part
abbrev pub ArePartsAnswer : List Contest → RuleSet → Option Proved → Option LowerPart
    → Option (Part × ℕ) → Type 0
ArePartsAnswer contests rules proved lower None = PartsHold contests rules proved lower
ArePartsAnswer contests rules proved lower (Some fault) =
    IsPartsFault contests rules proved lower fault.0 fault.1

-- an open tree over the decks of `from` ballots
abbrev pub IsOpenTreeAnswer : List Contest → RuleSet → ℕ → List (Node Label Reason) → Option ℕ
    → Type 0
IsOpenTreeAnswer contests rules from nodes None =
    IsTree nodes × OpenChecks deck_steps (empty contests rules from) (tree_of nodes)
IsOpenTreeAnswer contests rules from nodes (Some i) =
    IsFirstFault true deck_steps (empty contests rules from) nodes i

-- a license
abbrev pub IsLicenseAnswer : List Contest → RuleSet → ℕ → License → Option ℕ → Type 0
IsLicenseAnswer contests rules from license None = IsLicense contests rules from license
IsLicenseAnswer contests rules from license (Some i) =
    IsLicenseFault contests rules from license i

-- a license's deck is of the style's targets
abbrev pub HasTargets : List Contest → License → Type 0
HasTargets contests (Tree nodes) = Unit {0}
HasTargets contests (Deck deck nodes) = deck.targets ≡ target_count contests

-- What has a fault doesn't hold.
use Rattle.std.proofs.Common.{◌≡◌, inl, inr, ℕ, true, false, Option, Some, List, subst}
use Rattle.std.specs.Prelude.{IfSome}
use Rattle.lat_base.specs.declared.contest.Contest.{Contest}
use Rattle.lat_base.specs.Rules.{RuleSet}
use Rattle.deck_state.specs.PartialDeck.{empty}
use Rattle.deck_space.specs.Steps.{deck_steps}
use Rattle.evade_space.specs.Sought.{own_sought, start}
use Rattle.evade_space.specs.Steps.{evade_steps}
use Rattle.tree_core.proofs.Holding.{fault_refutes}
use Rattle.cert_types.specs.declared.license.License.{License}
use Rattle.cert_types.specs.declared.license.License.TheVariants.{Tree, Deck}
use Rattle.cert_types.specs.declared.part.Part.{Part}
use Rattle.cert_types.specs.declared.part.Part.TheVariants as parts
use Rattle.cert_types.specs.declared.proved.Proved.{Proved}
use Rattle.cert_types.specs.Holding.{PartsHold, IsDeckFault, IsPartsFault, OpenHolds, IsOpenFault}
use Rattle.cert_types.specs.License.{IsLicense, IsLicenseFault}
use Rattle.cert_types.specs.Lower.{IsLower, IsLowerFault, lower_root}
use Rattle.cert_types.specs.LowerPart.{LowerPart}
use Rattle.cert_types.specs.OpenValue.{OpenValue}
use Rattle.cert_types.specs.Proved.{IsProved}

-- what holds of the value that is there holds of this one
of_that : {A : Type 0} (P : A → Type 0) (o : Option A) (x : A) → o ≡ Some x → IfSome o P → P x
of_that P o x e h = subst (λ (v : Option _). IfSome v P) e h

deck_faulty : (contests : List Contest) (rules : RuleSet) (p : Proved) (part : Part) (i : ℕ)
    → IsDeckFault contests rules p part i → ¬ IsProved contests rules p
deck_faulty contests rules p parts.Rules i fault holds = fault.0 holds.obeys
deck_faulty contests rules p parts.Robust i fault holds =
    let sought = own_sought contests p.deck.ballots in
    fault_refutes (evade_steps sought) false (start sought) p.robust i holds.robust.lists fault.1 holds.robust.checks
deck_faulty contests rules p parts.Deck i fault holds = fault
deck_faulty contests rules p parts.Lower i fault holds = fault
deck_faulty contests rules p parts.License i fault holds = fault

lower_faulty : (contests : List Contest) (rules : RuleSet) (l : LowerPart) (i : ℕ)
    → IsLowerFault contests rules l i → ¬ IsLower contests rules l
lower_faulty contests rules l i fault holds =
    fault_refutes deck_steps false (lower_root contests rules l) l.tree i holds.lists fault holds.checks

-- a deck and a lower part
pub parts_faulty : (contests : List Contest) (rules : RuleSet) (proved : Option Proved)
    (lower : Option LowerPart) (part : Part) (i : ℕ)
    → IsPartsFault contests rules proved lower part i → ¬ PartsHold contests rules proved lower
parts_faulty contests rules proved lower part i (inl (p, e, fault)) holds =
    deck_faulty contests rules p part i fault (of_that (IsProved contests rules) proved p e holds.deck_holds)
parts_faulty contests rules proved lower part i (inr (deck, l, e, named, fault)) holds =
    lower_faulty contests rules l i fault (of_that (IsLower contests rules) lower l e holds.lower_holds)

license_faulty : (contests : List Contest) (rules : RuleSet) (from : ℕ) (license : License) (i : ℕ)
    → IsLicenseFault contests rules from license i → ¬ IsLicense contests rules from license
license_faulty contests rules from (Tree nodes) i fault holds =
    fault_refutes deck_steps true (empty contests rules from) nodes i holds.0 fault holds.1
license_faulty contests rules from (Deck deck nodes) i (inl other) holds = other.0 holds.0
license_faulty contests rules from (Deck deck nodes) i (inr fault) holds =
    let sought = own_sought contests deck.ballots in
    fault_refutes (evade_steps sought) true (start sought) nodes i holds.1.lists fault.1 holds.1.checks

-- an open file
pub open_faulty : (file : OpenValue) (part : Part) (i : ℕ) → IsOpenFault file part i
    → ¬ OpenHolds file
open_faulty file part i (inl fault) holds =
    parts_faulty file.contests file.rules file.best file.lower part i fault holds.parts_hold
open_faulty file part i (inr fault) holds =
    license_faulty file.contests file.rules file.from file.license i fault.2 holds.license_holds

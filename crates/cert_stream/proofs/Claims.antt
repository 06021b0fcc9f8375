-- What a certificate claims that holds.
use Rattle.std.proofs.Common.{◌≡◌, ℕ, ◌≤◌, Bool, List, length, Option, Some, None, inl, refl}
use Rattle.std.specs.Prelude.{IfSome}
use Rattle.std.proofs.lemmas.List.{length-replicate}
use Rattle.std.proofs.lemmas.List.Elements.{All-from_recursion}
use Rattle.lat_base.specs.declared.contest.Contest.{Contest}
use Rattle.lat_base.specs.Deck.{Fits}
use Rattle.lat_base.specs.Goodness.{IsGood}
use Rattle.lat_base.specs.Misassignment.{identity}
use Rattle.lat_base.specs.Rules.{RuleSet}
use Rattle.lat_base.specs.Shape.{IsShape, target_count}
use Rattle.lat_misassign.proofs.Identity.{identity_is}
use Rattle.readings.proofs.Reports.{report_long}
use Rattle.evade_space.specs.Sought.{own_sought, start}
use Rattle.evade_space.specs.Steps.{evade_steps, IsEvadeState, IsSolution}
use Rattle.evade_space.proofs.Laws.{kid_is_own, skipped_has_none, kids_share}
use Rattle.evade_space.proofs.Start.{start_partly}
use Rattle.tree_core.specs.Reading.{tree_of}
use Rattle.tree_core.proofs.Empty.{no_solution}
use Rattle.cert_types.specs.declared.proved.Proved.{Proved}
use Rattle.cert_types.specs.CertValue.{CertValue}
use Rattle.cert_types.specs.Claim.{CertClaim}
use Rattle.cert_types.specs.Holding.{CertHolds}
use Rattle.cert_types.specs.Proved.{IsProved}
use Rattle.cert_check.proofs.Claims.{cert_claim}
use Rattle.cert_check.proofs.RobustTrees.{robust_there}
use Rattle.cert_format.specs.Fields.{IsProvedField}
use Rattle.cert_format.specs.Files.{IsCert}

-- a walk over the misassignments of a deck begins at one of its own states
start_is_own : (contests : List Contest) (deck : List (List Bool)) → IsShape contests
    → Fits (target_count contests) deck → length deck ≤ 1024
    → IsEvadeState (own_sought contests deck) (start (own_sought contests deck))
start_is_own contests deck shape fits few = record {
  is_sought = record { shape = shape; fits = fits; few = few; wanted = report_long contests deck (identity (target_count contests)); skip = identity_is (target_count contests) };
  long = length-replicate (target_count contests) None;
  partly = start_partly (target_count contests) (start (own_sought contests deck)).counts shape.few_targets;
  kept = refl;
  alive = inl refl;
}

-- a deck that is proved is good
good_of : (contests : List Contest) (rules : RuleSet) (p : Proved) → IsShape contests
    → IsProvedField contests p → IsProved contests rules p → IsGood contests rules p.deck.ballots
good_of contests rules p shape field holds =
    let deck = p.deck.ballots in
    let sought = own_sought contests deck in
    let fits : Fits (target_count contests) deck = All-from_recursion (λ (ballot : List Bool). length ballot ≡ target_count contests) deck field.rows.ballots.each in
    let own = start_is_own contests deck shape fits field.few in
    let none : (v : List ℕ) → IsSolution sought (start sought) v → ⊥ =
    λ v solved. no_solution (evade_steps sought) (IsEvadeState sought) (IsSolution sought) (kid_is_own sought) (skipped_has_none sought) (kids_share sought)
    (tree_of p.robust) (start sought) v own holds.robust.checks solved in
    record { fits = fits; robust = robust_there contests deck sought (start sought) refl refl none; obeys = holds.obeys }

good_if : (contests : List Contest) (rules : RuleSet) (proved : Option Proved) → IsShape contests
    → IfSome proved (IsProvedField contests) → IfSome proved (IsProved contests rules)
    → IfSome proved (λ p. IsGood contests rules p.deck.ballots)
good_if contests rules None shape fields holds = tt
good_if contests rules (Some p) shape fields holds = good_of contests rules p shape fields holds

-- a certificate that holds claims what is true
pub claim_is_true : (cert : CertValue) → IsCert cert → CertHolds cert → CertClaim cert
claim_is_true cert is holds =
    cert_claim cert is.kept (record {
      shape = is.head.shape;
      good = good_if cert.contests cert.rules cert.proved is.head.shape is.deck_field holds.deck_holds;
      lower_holds = holds.lower_holds;
    })

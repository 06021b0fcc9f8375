-- The plain deck is robust.
use Rattle.std.proofs.Common.{◌≡◌, ◌≤◌, ◌+◌, ◌++◌, ℕ, inl, Bool, Option, None, List, [], ◌∷◌, length, map, take, replicate, refl, ap, sym, ◌∙◌, arith, length-append, All}
use Rattle.std.specs.List.{range_with_len}
use Rattle.std.proofs.lemmas.List.{length-replicate}
use Rattle.std.proofs.lemmas.List.FromFn.{length-map-range_with_len}
use Rattle.std.proofs.Math.Seq.{take-append_seam}
use Rattle.lat_base.specs.declared.contest.Contest.{Contest}
use Rattle.lat_base.specs.Shape.{target_count, IsShape}
use Rattle.lat_base.specs.Deck.{Fits}
use Rattle.lat_base.specs.Goodness.{IsRobust}
use Rattle.lat_base.specs.Misassignment.{identity}
use Rattle.lat_base.specs.Rules.{RuleSet}
use Rattle.lat_ballots.specs.Plain.{plain_ballots, plain_size}
use Rattle.lat_ballots.proofs.PlainDeck.{plain_long, plain_fits}
use Rattle.lat_misassign.proofs.Identity.{identity_is}
use Rattle.readings.proofs.Reports.{report_long}
use Rattle.tree_core.specs.declared.node.Node.{Node}
use Rattle.tree_core.specs.declared.node.Node.TheVariants.{Close, Fork}
use Rattle.tree_core.specs.Reading.{tree_of}
use Rattle.tree_core.proofs.Empty.{no_solution}
use Rattle.evade_space.specs.declared.skipped.Skipped.{Skipped}
use Rattle.evade_space.specs.Counts.{counts_of}
use Rattle.evade_space.specs.Sought.{own_sought, start}
use Rattle.evade_space.specs.Steps.{IsEvadeState, IsSolution, evade_steps}
use Rattle.evade_space.proofs.Laws.{kid_is_own, skipped_has_none, kids_share}
use Rattle.evade_space.proofs.PlainTree.{plain_tree}
use Rattle.evade_space.proofs.Start.{start_partly}
use Rattle.adversary.proofs.Attacks.{is_robust}

-- the space of a deck's own misassignments begins with one of its own states
own_start : (contests : List Contest) (deck : List (List Bool)) → IsShape contests
    → Fits (target_count contests) deck → length deck ≤ 1024
    → IsEvadeState (own_sought contests deck) (start (own_sought contests deck))
own_start contests deck shape fits few = record {
  is_sought = record { shape = shape; fits = fits; few = few; wanted = report_long contests deck (identity (target_count contests)); skip = identity_is (target_count contests) };
  long = length-replicate {A = Option ℕ} (target_count contests) None;
  partly = start_partly (target_count contests) (counts_of contests deck (replicate (target_count contests) None)) shape.few_targets;
  kept = refl;
  alive = inl refl;
}

-- a fork on image u into one kid
abbrev pub fork_on : ℕ → Node ℕ Skipped
fork_on u = Fork u 1

-- the nodes in order
abbrev pub plain_nodes : ℕ → Skipped → List (Node ℕ Skipped)
plain_nodes targets r = map (λ u. Fork u 1) (range_with_len 0 targets) ++ Close r ∷ []

pub nodes_long : (targets : ℕ) (r : Skipped) → length (plain_nodes targets r) ≡ targets + 1
nodes_long targets r =
    omega (arith, length-append (map fork_on (range_with_len 0 targets)) (Close r ∷ []), length-map-range_with_len fork_on 0 targets)

pub nodes_rise : (targets : ℕ) (r : Skipped)
    → take targets (plain_nodes targets r) ≡ map (λ u. Fork u 1) (range_with_len 0 targets)
nodes_rise targets r =
    ap (λ (n : ℕ). take n (plain_nodes targets r)) (sym (length-map-range_with_len fork_on 0 targets)) ∙ take-append_seam (map fork_on (range_with_len 0 targets)) (Close r ∷ [])

pub plain_is_robust : (contests : List Contest) (rules : RuleSet) → IsShape contests
    → plain_size (target_count contests) rules ≤ 1024
    → IsRobust contests (plain_ballots (target_count contests) rules).ballots
plain_is_robust contests rules shape few =
    let deck : List (List Bool) = (plain_ballots (target_count contests) rules).ballots in
    let sought = own_sought contests (plain_ballots (target_count contests) rules).ballots in
    let own = own_start contests (plain_ballots (target_count contests) rules).ballots shape (plain_fits (target_count contests) rules) (omega (arith, plain_long (target_count contests) rules, few)) in
    let tree = plain_tree contests rules shape (record {}) (plain_nodes (target_count contests) (record {})) refl in
    is_robust contests (plain_ballots (target_count contests) rules).ballots
    (λ v solved. no_solution (evade_steps (own_sought contests (plain_ballots (target_count contests) rules).ballots)) (λ s. IsEvadeState (own_sought contests (plain_ballots (target_count contests) rules).ballots) s)
    (λ s v. IsSolution (own_sought contests (plain_ballots (target_count contests) rules).ballots) s v)
    (kid_is_own (own_sought contests (plain_ballots (target_count contests) rules).ballots)) (skipped_has_none (own_sought contests (plain_ballots (target_count contests) rules).ballots))
    (kids_share (own_sought contests (plain_ballots (target_count contests) rules).ballots))
    (tree_of (plain_nodes (target_count contests) (record {}))) (start (own_sought contests (plain_ballots (target_count contests) rules).ballots)) v own tree.checks solved)

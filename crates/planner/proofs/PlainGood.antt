-- The plain deck is good.
use Rattle.std.proofs.Common.{◌≡◌, ℕ, List, refl, sym, subst}
use Rattle.lat_base.specs.declared.contest.Contest.{Contest}
use Rattle.lat_base.specs.Canonical.{IsCanonical}
use Rattle.lat_base.specs.Goodness.{IsRobust}
use Rattle.lat_base.specs.Rules.{RuleSet, Obeys}
use Rattle.lat_base.specs.Shape.{target_count}
use Rattle.lat_ballots.specs.Deck.{Ballots}
use Rattle.lat_ballots.specs.Plain.{plain_ballots}
use Rattle.lat_ballots.proofs.PlainDeck.{plain_long, plain_fits}
use Rattle.evade_space.specs.declared.skipped.Skipped.{Skipped}
use Rattle.evade_space.specs.Trees.{IsRobustTree}
use Rattle.tree_core.specs.declared.node.Node.{Node}
use Rattle.planner.specs.Answer.{most}
use Rattle.planner.specs.Searched.{IsGoodOf}

-- the plain deck with a tree that shows that it is robust
pub plain_good : (contests : List Contest) (rules : RuleSet) (deck : Ballots)
    (tree : List (Node ℕ Skipped)) → deck ≡ plain_ballots (target_count contests) rules
    → IsRobust contests (plain_ballots (target_count contests) rules).ballots
    → IsRobustTree contests (plain_ballots (target_count contests) rules).ballots tree
    → IsCanonical contests (plain_ballots (target_count contests) rules).ballots
    → Obeys contests rules (plain_ballots (target_count contests) rules).ballots
    → IsGoodOf contests rules (most contests rules) (record { deck = deck; robust = tree })
plain_good contests rules deck tree is robust checks canonical obeys =
    let P : Ballots → Type 0 = λ d. IsGoodOf contests rules (most contests rules) (record { deck = d; robust = tree }) in
    let there : P (plain_ballots (target_count contests) rules) = record {
      is_proved = record { targets = refl; obeys = obeys; robust = record { lists = checks.lists; checks = checks.checks } };
      good = record { fits = plain_fits (target_count contests) rules; robust = robust; obeys = obeys };
      canonical = canonical;
      size = plain_long (target_count contests) rules;
    } in
    subst P (sym is) there

-- What an attack on a canonical copy of a deck shows of the deck.
use Rattle.std.proofs.Common.{◌≡◌, ◌↔◌, inl, inr, ℕ, List, length, subst, ◌∙◌}
use Rattle.lat_base.specs.declared.contest.Contest.{Contest}
use Rattle.lat_base.specs.Canonical.{IsCanonical}
use Rattle.lat_base.specs.Deck.{Fits}
use Rattle.lat_base.specs.Goodness.{IsGood, IsRobust}
use Rattle.lat_base.specs.Rules.{RuleSet, Obeys}
use Rattle.lat_base.specs.Shape.{target_count}
use Rattle.lat_ballots.specs.Deck.{Ballots, IsDeck}
use Rattle.evade_space.specs.declared.skipped.Skipped.{Skipped}
use Rattle.evade_space.specs.Sought.{Evades}
use Rattle.symmetry.specs.Reordering.{IsReordered}
use Rattle.symmetry.proofs.GoodDecks.{reordered_obeys, reordered_size}
use Rattle.tree_core.specs.declared.node.Node.{Node}
use Rattle.tree_core.specs.Nodes.{IsGapless}
use Rattle.evade_space.specs.Trees.{IsRobustTree, IsOpenAttack}
use Rattle.planner.specs.Searched.{IsGoodOf}
use Rattle.planner.specs.Tried.{IsTriedDeck}

module _ (contests : List Contest) (rules : RuleSet) (deck copy : Ballots) (is : IsDeck deck) (targets : deck.targets ≡ target_count contests) (reordered : IsReordered contests deck.ballots copy.ballots) where
  fits : Fits (target_count contests) deck.ballots
  fits = subst (λ (n : ℕ). Fits n deck.ballots) targets is.fits

  pub copy_good : (tree : List (Node ℕ Skipped)) → IsDeck copy → copy.targets ≡ deck.targets
      → IsCanonical contests copy.ballots → Obeys contests rules deck.ballots
      → IsRobust contests copy.ballots → IsRobustTree contests copy.ballots tree → IsGoodOf contests rules (length deck.ballots) (record { deck = copy; robust = tree })
  copy_good tree copied same canonical obeys robust checks = record {
    is_proved = record {
      targets = same ∙ targets;
      obeys = reordered_obeys contests rules deck.ballots copy.ballots fits reordered obeys;
      robust = record { lists = checks.lists; checks = checks.checks };
    };
    good = record {
      fits = subst (λ (n : ℕ). Fits n copy.ballots) (same ∙ targets) copied.fits;
      robust = robust;
      obeys = reordered_obeys contests rules deck.ballots copy.ballots fits reordered obeys;
    };
    canonical = canonical;
    size = reordered_size contests deck.ballots copy.ballots reordered;
  }

  pub copy_evaded : (budget : ℕ) (s : List ℕ)
      → (IsGood contests rules copy.ballots ↔ IsGood contests rules deck.ballots)
      → Evades contests copy.ballots s → Obeys contests rules deck.ballots
      → IsTriedDeck contests budget deck.ballots
  copy_evaded budget s both evades obeys =
      inl (λ robust. evades.other ((both.1 (record { fits = fits; robust = robust; obeys = obeys })).robust s evades.is evades.same))

  pub copy_open : (budget : ℕ) (tree : List (Node ℕ Skipped)) → IsCanonical contests copy.ballots
      → IsOpenAttack contests copy.ballots budget tree → IsGapless tree
      → IsTriedDeck contests budget deck.ballots
  copy_open budget tree canonical attack gapless = inr (copy.ballots, tree, record { canonical = canonical; reordered = reordered; attack = attack; gapless = gapless })

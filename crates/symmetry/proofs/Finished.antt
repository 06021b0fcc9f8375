-- The canonical copy of a deck, as it is made.
use Rattle.std.proofs.Common.{◌≡◌, ◌↔◌, ℕ, Bool, List, length, map, ap, subst, ◌∙◌, IsPermutation}
use Rattle.lat_base.specs.declared.contest.Contest.{Contest}
use Rattle.lat_base.specs.Shape.{target_count}
use Rattle.lat_base.specs.Tally.{reading}
use Rattle.lat_base.specs.Deck.{Fits}
use Rattle.lat_base.specs.Rules.{RuleSet, Obeys}
use Rattle.lat_base.specs.Goodness.{IsGood}
use Rattle.lat_base.specs.Canonical.{IsCanonical}
use Rattle.lat_ballots.specs.Deck.{Ballots, IsDeck}
use Rattle.lat_ballots.specs.Falling.{AreFalling}
use Rattle.readings.specs.Structural.{relabelled}
use Rattle.symmetry.specs.Reordering.{IsReordered}
use Rattle.symmetry.specs.Ordered.{AreOrdered}
use Rattle.symmetry.proofs.GoodDecks.{reordered_good, good_reordered, reordered_obeys, reordered_size}
use Rattle.symmetry.proofs.CanonicalCopies.{reordered_canonical}

pub record IsCopy (contests : List Contest) (deck copy : List (List Bool)) : Type 0 where
  pub canonical : IsCanonical contests copy
  pub reordered : IsReordered contests deck copy
  pub good : (rules : RuleSet) → IsGood contests rules copy ↔ IsGood contests rules deck
  pub obeys : (rules : RuleSet) → Obeys contests rules deck → Obeys contests rules copy
  pub size : length copy ≡ length deck

-- from targets in order and ballots in order
pub finished : (contests : List Contest) (deck copy result : Ballots) (sources : List ℕ)
    → IsDeck deck → deck.targets ≡ target_count contests → AreOrdered contests deck.ballots sources
    → copy.ballots ≡ map (λ ballot. reading ballot sources) deck.ballots
    → IsPermutation copy.ballots result.ballots → AreFalling result.ballots
    → IsCopy contests deck.ballots result.ballots
finished contests deck copy result sources is targets ordered copy_is same falling =
    let n = target_count contests in
    let fits : Fits n deck.ballots = subst (λ (m : ℕ). Fits m deck.ballots) targets is.fits in
    let relabel : copy.ballots ≡ relabelled n ordered.from deck.ballots = copy_is ∙ ap (λ (s : List ℕ). map (λ ballot. reading ballot s) deck.ballots) ordered.are in
    let ballots = subst (λ (d : List (List Bool)). IsPermutation d result.ballots) relabel same in
    let reordered : IsReordered contests deck.ballots result.ballots = record { source = ordered.from; targets = ordered.is; ballots = ballots } in
    record {
      canonical = reordered_canonical contests deck.ballots result.ballots ordered.from fits ordered.is ballots falling ordered.rise ordered.earlier;
      reordered = reordered;
      obeys = λ rules. reordered_obeys contests rules deck.ballots result.ballots fits reordered;
      size = reordered_size contests deck.ballots result.ballots reordered;
      good = λ rules. (good_reordered contests rules deck.ballots result.ballots fits reordered, reordered_good contests rules deck.ballots result.ballots reordered);
    }

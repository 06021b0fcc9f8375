-- A tree that checks at the partial deck of which nothing is decided leaves no good deck of its
-- size.
use Rattle.std.proofs.Common.{◌≡◌, ◌+◌, ◌-◌, ◌<◌, ◌≤◌, ℕ, Bool, false, List, [], length, get_or, replicate, refl, ap, sym, subst, ◌∙◌, arith}
use Rattle.std.proofs.lemmas.List.{get_or-replicate}
use Rattle.std.proofs.lemmas.List.Sums.{count_by-le-length}
use Rattle.lat_base.specs.declared.contest.Contest.{Contest}
use Rattle.lat_base.specs.Deck.{Fits}
use Rattle.lat_base.specs.Goodness.{IsGood, NoGoodBelow}
use Rattle.lat_base.specs.Misassignment.{identity}
use Rattle.lat_base.specs.Rules.{RuleSet}
use Rattle.lat_base.specs.Shape.{target_count, IsShape}
use Rattle.lat_base.specs.Tally.{own_total, votes_for, reading}
use Rattle.close_rules.specs.declared.label.Label.{Label}
use Rattle.close_rules.specs.declared.reason.Reason.{Reason}
use Rattle.deck_state.specs.declared.bounds.Bounds.{Bounds}
use Rattle.deck_state.specs.declared.mark.Mark.{Mark}
use Rattle.deck_state.specs.declared.mark.Mark.TheVariants.{Undecided}
use Rattle.deck_state.specs.Completion.{Agrees, IsCompletion}
use Rattle.deck_state.specs.PartialDeck.{empty, mark_at, bounds_at, no_bounds}
use Rattle.deck_state.specs.Trail.{IsPartial}
use Rattle.deck_state.proofs.Opened.{empty_partial}
use Rattle.symmetry.proofs.CanonicalCopies.{good_copy}
use Rattle.tree_core.specs.Checks.{Checks}
use Rattle.tree_core.specs.Rose.{Rose}
use Rattle.tree_core.proofs.Empty.{no_solution}
use Rattle.deck_space.specs.Numbers.{numbers}
use Rattle.deck_space.specs.Steps.{deck_steps, Solves}
use Rattle.deck_space.proofs.Padded.{padded_good}
use Rattle.deck_space.proofs.Laws.{keeps, is_empty, splits}

undecided_at : (contests : List Contest) (rules : RuleSet) (k j t : ℕ) → j < k
    → t < target_count contests → mark_at (empty contests rules k) j t ≡ Undecided
undecided_at contests rules k j t h lt =
    ap (λ (row : List Mark). get_or row t Undecided) (get_or-replicate k j (replicate (target_count contests) Undecided) [] h)
    ∙ get_or-replicate (target_count contests) t Undecided Undecided lt

bounds_are : (contests : List Contest) (rules : RuleSet) (k t : ℕ) → t < target_count contests → bounds_at (empty contests rules k) t ≡ record { low = 0; high = k }
bounds_are contests rules k t lt = get_or-replicate (target_count contests) t (record { low = 0; high = k }) no_bounds lt

total_few : (contests : List Contest) (deck : List (List Bool)) (t : ℕ)
    → own_total contests deck t ≤ length deck
total_few contests deck t = count_by-le-length (λ ballot. votes_for contests (reading ballot (identity (target_count contests))) t) deck

-- the partial deck of which nothing is decided can become any deck of its size
completes_empty : (contests : List Contest) (rules : RuleSet) (k : ℕ) (deck : List (List Bool))
    → Fits (target_count contests) deck → length deck ≡ k
    → IsCompletion (empty contests rules k) deck
completes_empty contests rules k deck fits size = record {
  fits = fits;
  size = size;
  agrees = λ j t h lt. subst (λ (mark : Mark). Agrees mark (get_or (get_or deck j []) t false)) (sym (undecided_at contests rules k j t h lt)) tt;
  above = λ t lt. omega (arith, ap (λ (b : Bounds). b.low) (bounds_are contests rules k t lt));
  below = λ t lt. omega (arith, ap (λ (b : Bounds). b.high) (bounds_are contests rules k t lt), total_few contests deck t, size);
}

pub no_good_deck : (contests : List Contest) (rules : RuleSet) (k : ℕ) (tree : Rose Label Reason)
    → IsShape contests → k ≤ 1024 → Checks deck_steps (empty contests rules k) tree
    → (deck : List (List Bool)) → IsGood contests rules deck → length deck ≡ k → ⊥
no_good_deck contests rules k tree shape few checks deck good size =
    let copy = good_copy contests rules deck good in
    let completion = completes_empty contests rules k copy.0 copy.2.fits (copy.3 ∙ size) in
    no_solution deck_steps (λ p. IsPartial p) (λ p v. Solves p v) keeps is_empty splits
    tree (empty contests rules k) (numbers copy.0) (empty_partial contests rules k shape few) checks
    (copy.0, refl, record { good = copy.2; canonical = copy.1; completion = completion })

-- and none of fewer ballots, which blank ones would make up to its size
pub no_good_below : (contests : List Contest) (rules : RuleSet) (k : ℕ) (tree : Rose Label Reason)
    → IsShape contests → k ≤ 1024 → Checks deck_steps (empty contests rules k) tree
    → NoGoodBelow contests rules (k + 1)
no_good_below contests rules k tree shape few checks deck fewer good =
    let padded = padded_good contests rules (k - length deck) deck good in
    no_good_deck contests rules k tree shape few checks padded.0 padded.1 (omega (arith, padded.2, fewer))

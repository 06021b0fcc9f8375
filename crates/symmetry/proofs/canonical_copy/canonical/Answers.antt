use Rattle.std.proofs.Common.{◌≡◌, ◌<◌, ◌≤◌, ℕ, List, All, sym, subst, ◌∙◌, ap, length}
use Rattle.lat_base.specs.Shape.{target_count}
use Rattle.lat_ballots.specs.Deck.{Ballots, IsDeck}
use Rattle.lat_ballots.proofs.Rows.{is_deck}
use Rattle.symmetry.specs.Ordered.{AreOrdered}
use Rattle.symmetry.proofs.Moved.{ordered_long, ordered_within}
use Rattle.symmetry.proofs.Finished.{IsCopy, finished}
use Rattle.symmetry.proofs.canonical_copy.canonical.Goals as goal

is_of_shape : (c : goal.After-as_slice)
    → (length c.as_slice.result.now ≡ c.args.deck.targets) × IsDeck c.args.deck
is_of_shape c = (
  ap length c.as_slice.ensures.value ∙ (ordered_long c.args.shape.now c.args.deck.ballots c.in_ok-sources.sources.items c.in_ok-sources.ensures ∙ sym c.requires),
  subst IsDeck c.deck.view_is (is_deck c.deck.inside.targets c.deck.inside.rows.items c.deck.invariant),
)

pub read-requires-clause-few : goal.read-requires-clause-few
read-requires-clause-few c = subst (λ (n : ℕ). n ≤ 256) (sym (is_of_shape c).0) (is_of_shape c).1.few_targets

pub read-requires-clause-within : goal.read-requires-clause-within
read-requires-clause-within c =
    subst (λ (n : ℕ). All (λ t. t < n) c.as_slice.result.now) (sym c.requires)
    (subst (λ (s : List ℕ). All (λ t. t < target_count c.args.shape.now) s) (sym c.as_slice.ensures.value) (ordered_within c.args.shape.now c.args.deck.ballots c.in_ok-sources.sources.items c.in_ok-sources.ensures))

copied : (c : goal.After-drop-deck-inside-2)
    → IsCopy c.args.shape.now c.args.deck.ballots c.sort_rows.new.self.ballots
copied c =
    finished c.args.shape.now c.args.deck c.in_ok-copy.copy c.sort_rows.new.self c.as_slice.result.now
    (subst IsDeck c.deck.view_is (is_deck c.deck.inside.targets c.deck.inside.rows.items c.deck.invariant)) c.requires
    (subst (AreOrdered c.args.shape.now c.args.deck.ballots) (sym c.as_slice.ensures.value) c.in_ok-sources.ensures)
    (ap (λ (d : Ballots). d.ballots) c.in_ok-copy.ensures) c.sort_rows.ensures.same c.in_ok-sort_rows.ensures.order

pub returns-clause-canonical : goal.returns-clause-canonical
returns-clause-canonical c = (copied c).canonical

pub returns-clause-reordered : goal.returns-clause-reordered
returns-clause-reordered c = (copied c).reordered

pub returns-clause-good : goal.returns-clause-good
returns-clause-good c = (copied c).good

pub returns-clause-targets : goal.returns-clause-targets
returns-clause-targets c =
    c.sort_rows.ensures.targets ∙ (ap (λ (d : Ballots). d.targets) c.in_ok-copy.ensures
    ∙ (ap length c.as_slice.ensures.value ∙ (ordered_long c.args.shape.now c.args.deck.ballots c.in_ok-sources.sources.items c.in_ok-sources.ensures ∙ sym c.requires)))

pub returns-clause-obeys : goal.returns-clause-obeys
returns-clause-obeys c = (copied c).obeys

pub returns-clause-size : goal.returns-clause-size
returns-clause-size c = (copied c).size

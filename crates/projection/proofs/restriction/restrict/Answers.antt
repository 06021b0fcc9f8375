use Rattle.std.proofs.Common.{◌≡◌, ◌≤◌, ◌<◌, ℕ, List, All, length, map, ap, sym, subst, ◌∙◌}
use Rattle.std.specs.List.{flat_map}
use Rattle.lat_base.specs.Shape.{target_count}
use Rattle.lat_base.specs.Tally.{reading}
use Rattle.lat_base.specs.Deck.{Fits}
use Rattle.lat_base.specs.Part.{part}
use Rattle.readings.specs.Structural.{targets_of}
use Rattle.projection.proofs.Cuts.{targets_long, targets_within, deck_cut}
use Rattle.projection.proofs.Rising.{part_few_targets}
use Rattle.projection.proofs.restriction.restrict.Goals as goal

pub read-requires-clause-few : goal.read-requires-clause-few
read-requires-clause-few c =
    subst (λ (n : ℕ). n ≤ 256) (sym (ap length (c.as_slice.ensures.value ∙ c.in_ok-sources.ensures) ∙ targets_long c.args.shape.now c.args.contests.now))
    (part_few_targets c.args.shape.now c.args.contests.now c.contests-contests.ensures.shape c.requires.part)

pub read-requires-clause-within : goal.read-requires-clause-within
read-requires-clause-within c =
    subst (λ (n : ℕ). All (λ t. t < n) c.as_slice.result.now) (sym c.requires.deck)
    (subst (λ (s : List ℕ). All (λ t. t < target_count c.args.shape.now) s) (sym (c.as_slice.ensures.value ∙ c.in_ok-sources.ensures)) (targets_within c.args.shape.now c.args.contests.now c.requires.part))

pub returns : goal.returns
returns c =
    let sources : c.as_slice.result.now ≡ flat_map (targets_of c.args.shape.now) c.args.contests.now = c.as_slice.ensures.value ∙ c.in_ok-sources.ensures in
    let fits : Fits (target_count c.args.shape.now) c.args.deck.now.ballots = subst (λ (n : ℕ). Fits n c.args.deck.now.ballots) c.requires.deck c.ballots-ballots.ensures.deck.fits in
    c.in_ok-cut.ensures
    ∙ ((λ i. record { targets = length (sources i); ballots = map (λ b. reading b (sources i)) c.args.deck.now.ballots })
    ∙ (λ i. record { targets = targets_long c.args.shape.now c.args.contests.now i; ballots = deck_cut c.args.shape.now c.args.contests.now c.args.deck.now.ballots c.requires.part fits i }))

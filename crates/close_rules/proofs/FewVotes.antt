-- No least total is above the number of ballots.
use Rattle.std.proofs.Common.{◌<◌, ◌≤◌, ℕ, arith}
use Rattle.std.proofs.lemmas.List.Sums.{count_by-le-length}
use Rattle.lat_base.specs.Shape.{target_count}
use Rattle.deck_state.specs.PartialDeck.{PartialDeck, no_bounds}
use Rattle.deck_state.specs.Trail.{IsPartial}
use Rattle.deck_state.specs.Votes.{surely_votes_for, lo}

pub lo_few : (p : PartialDeck) (t : ℕ) → IsPartial p → t < target_count p.contests → lo p t ≤ 1024
lo_few p t is h =
    let bounds = is.ordered t no_bounds (omega (arith, h, is.each)) in
    omega (arith, bounds.0, bounds.1, count_by-le-length (λ row. surely_votes_for p.contests row t) p.marks, is.height, is.few)

use Rattle.std.proofs.Common.{◌≡◌, ◌∙◌, ℕ, length, map, ap, sym, arith}
use Rattle.std.specs.List.{range_with_len}
use Rattle.lat_base.specs.Shape.{target_count}
use Rattle.evade_space.specs.Losses.{lost}
use Rattle.evade_space.specs.Votes.{may_vote, must_vote}
use Rattle.evade_space.specs.Sought.{Sought}
use Rattle.evade_space.proofs.KnownRows.{row_of_unused}
use Rattle.evade_space.proofs.count_all.count_all.Goals as goal

pub returns : goal.returns
returns c =
    let free = row_of_unused (target_count c.space.inside.shape) c.space.inside.deck.ballots c.args.space.now.deck c.args.sources.now c.unused_targets.result c.in_ok-free.free.items c.space.invariant.0.fits (ap (λ (x : Sought). x.deck) c.space.view_is)
    (c.requires.long ∙ sym (ap (λ (x : Sought). target_count x.contests) c.space.view_is)) c.unused_targets.ensures.unused c.in_ok-free.ensures in
    let end : c.loop-u.u ≡ length c.args.sources.now = omega (arith, c.loop-u-test.false, c.loop-u.auto.u-end) in
    let may = c.loop-u.invariant.may ∙ ap (λ (n : ℕ). map (may_vote c.args.space.now.contests c.args.space.now.deck c.args.sources.now) (range_with_len 0 n)) end in
    let must = c.loop-u.invariant.must ∙ ap (λ (n : ℕ). map (must_vote c.args.space.now.contests c.args.space.now.deck c.args.sources.now) (range_with_len 0 n)) end in
    let lost_is : c.lost-lost.result ≡ lost c.args.space.now.contests c.args.space.now.deck c.args.sources.now = c.lost-lost.ensures ∙ (λ i. lost (c.space.view_is i).contests (c.space.view_is i).deck c.args.sources.now) in
    λ i. record { taken = c.in_ok-taken.ensures i; free = free i; may = may i; must = must i; lost = lost_is i }

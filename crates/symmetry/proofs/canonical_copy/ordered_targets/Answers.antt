use Rattle.std.proofs.Common.{◌≡◌, length, ap, ◌∙◌}
use Rattle.std.proofs.lemmas.List.FromFn.{length-map-range_with_len}
use Rattle.lat_base.specs.Shape.{target_count}
use Rattle.symmetry.specs.Counted.{counted, targets_in}
use Rattle.symmetry.proofs.Moved.{put_back, ordered}
use Rattle.symmetry.proofs.canonical_copy.ordered_targets.Goals as goal

pub order-requires : goal.order-requires
order-requires c =
    ap length (c.deref_mut.ensures.value ∙ c.in_ok-list.ensures) ∙ length-map-range_with_len (counted c.args.shape.now c.args.deck.now.ballots) 0 (target_count c.args.shape.now)

pub returns : goal.returns
returns c =
    let list : c.as_slice.result.now ≡ c.order.new.list = c.as_slice.ensures.value ∙ put_back c.in_ok-list.list.items c.deref_mut.result.now c.order.new.list c.in_ok-list.list.len c.deref_mut.ensures.len c.order.ensures.moved.long in
    ordered c.args.shape.now c.args.deck.now.ballots c.deref_mut.result.now c.order.new.list c.in_ok-sources.sources.items (c.deref_mut.ensures.value ∙ c.in_ok-list.ensures) c.order.ensures.moved c.order.ensures.rise c.order.ensures.earlier
    (c.in_ok-sources.ensures ∙ ap targets_in list)

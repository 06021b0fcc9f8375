use Rattle.std.proofs.Common.{◌≡◌, length, ap, ◌∙◌, arith, refl}
use Rattle.lat_base.specs.ShapeFault.{shape_fault}
use Rattle.lat_base.specs.Part.{part}
use Rattle.projection.proofs.Rising.{part_few, part_shape}
use Rattle.projection.proofs.parts.part_of.Goals as goal

pub new-requires : goal.new-requires
new-requires c =
    let list : c.as_slice.result.now ≡ part c.args.shape.now c.args.contests.now = c.as_slice.ensures.value ∙ c.in_ok-list.ensures in
    omega (arith, ap length list, part_few c.args.shape.now c.args.contests.now c.contests-contests.ensures.shape c.requires)

pub unreachable-requires : goal.unreachable-requires
unreachable-requires c =
    let list : c.as_slice.result.now ≡ part c.args.shape.now c.args.contests.now = c.as_slice.ensures.value ∙ c.in_ok-list.ensures in
    let none = ap shape_fault list ∙ part_shape c.args.shape.now c.args.contests.now c.contests-contests.ensures.shape c.requires in
    let some = (c.in-Err.ensures.fault c.in-Err.e c.in_default.not-Memory).0 refl in
    cc

use Rattle.std.proofs.Common.{◌≡◌, None, ap, ◌∙◌}
use Rattle.projection.specs.PartFault.{part_fault}
use Rattle.cert_check.proofs.Lowers.{no_part_fault}
use Rattle.cert_check.proofs.lower.part_of.Goals as goal

pub unreachable-requires : goal.unreachable-requires
unreachable-requires c =
    let told = (c.part.ensures.fault c.in-Err.fault c.in_default.not-Memory).0 c.in-Err.is in
    let none = no_part_fault c.args.shape.now c.args.lower.now.contests c.requires in
    let items : c.as_slice.result.now ≡ c.args.lower.now.contests = cc (c.as_slice.ensures.value, c.lower.view_is) in
    let moved : part_fault c.args.shape.now c.as_slice.result.now ≡ None = ap (part_fault c.args.shape.now) items ∙ none in
    cc (told, moved)

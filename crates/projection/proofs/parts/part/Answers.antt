use Rattle.std.proofs.Common.{sym, ◌∙◌}
use Rattle.projection.proofs.Rising.{sound_part}
use Rattle.projection.proofs.parts.part.Goals as goal

pub part_of-requires : goal.part_of-requires
part_of-requires c = sound_part c.args.shape.now c.args.contests.now (sym c.is_empty.ensures ∙ c.if-is_empty.false) (sym c.find_fault.ensures ∙ c.in_default.is)

pub returns-in-Ok-clause-sound : goal.returns-in-Ok-clause-sound
returns-in-Ok-clause-sound c = sound_part c.args.shape.now c.args.contests.now (sym c.is_empty.ensures ∙ c.if-is_empty.false) (sym c.find_fault.ensures ∙ c.in_default.is)

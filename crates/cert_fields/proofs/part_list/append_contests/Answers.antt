use Rattle.std.proofs.Common.{arith}
use Rattle.cert_fields.proofs.Limits.{few_contests}
use Rattle.cert_fields.proofs.part_list.append_contests.Goals as goal

pub overflow_cast-contests : goal.overflow_cast-contests
overflow_cast-contests c =
    omega (arith, few_contests c.args.shape.now c.args.contests.now c.requires, c.contests-contests.ensures.shape.few)

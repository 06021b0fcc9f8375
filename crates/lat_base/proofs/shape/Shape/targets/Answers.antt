use Rattle.std.proofs.Common.{◌≡◌, length, arith}
use Rattle.lat_base.proofs.ShapeFacts.{some_target, firsts_end}
use Rattle.lat_base.proofs.shape.Shape.targets.Goals as goal

pub returns-clause-some : goal.returns-clause-some
returns-clause-some c =
    let contests = c.self.inside.contests.items in
    let last : c.len.result ≡ length contests = omega (arith, c.len.ensures, c.self.inside.contests.ok.0) in
    omega (arith, firsts_end contests c.self.inside.firsts.items c.len.result c.index.result.now c.self.invariant.1 last c.index.ensures, some_target contests c.self.invariant.0)

use Rattle.std.proofs.Common.{sym, ◌∙◌, arith}
use Rattle.lat_rules.specs.Broken.{broken_pair}
use Rattle.lat_rules.proofs.First.{first_here}
use Rattle.lat_rules.proofs.finds.equal_at.Goals as goal

pub returns-in-Some : goal.returns-in-Some
returns-in-Some c =
    sym (first_here (broken_pair c.args.shape.now c.args.deck.now.ballots c.args.t) c.loop-u.u (c.first_of-last.result) c.in-Some.broken (omega arith) (sym c.in-Some.ensures)) ∙ c.loop-u.invariant

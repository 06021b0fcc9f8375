use Rattle.std.proofs.Common.{length, sym, ◌∙◌, arith}
use Rattle.lat_rules.specs.Broken.{broken_over}
use Rattle.lat_rules.proofs.First.{first_here}
use Rattle.lat_rules.proofs.finds.find_over.Goals as goal

pub returns-in-Some : goal.returns-in-Some
returns-in-Some c =
    sym (first_here (broken_over c.args.shape.now c.args.rules.now c.args.deck.now.ballots) c.loop-c.c (length c.args.shape.now) c.in-Some.broken (omega arith) (sym c.in-Some.ensures)) ∙ c.loop-c.invariant

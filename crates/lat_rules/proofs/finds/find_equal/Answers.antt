use Rattle.std.proofs.Common.{sym, ◌∙◌, arith}
use Rattle.lat_base.specs.Shape.{target_count}
use Rattle.lat_rules.specs.Broken.{broken_equal}
use Rattle.lat_rules.proofs.First.{first_here}
use Rattle.lat_rules.proofs.finds.find_equal.Goals as goal

pub returns-in-Some : goal.returns-in-Some
returns-in-Some c =
    sym (first_here (broken_equal c.args.shape.now c.args.deck.now.ballots) c.loop-t.t (target_count c.args.shape.now) c.in-Some.broken (omega arith) (sym c.in-Some.ensures)) ∙ c.loop-t.invariant

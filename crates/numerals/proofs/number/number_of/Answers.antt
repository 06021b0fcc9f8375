use Rattle.numerals.proofs.NumberFacts.{spelled}
use Rattle.numerals.proofs.number.number_of.Goals as goal

pub returns-clause-spelled : goal.returns-clause-spelled
returns-clause-spelled c n =
    rw c.number_in.ensures.said (spelled c.args.low c.args.high c.args.text.now c.ranges.high.fits n)

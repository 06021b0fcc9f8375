use Rattle.std.proofs.Common.{◌∙◌, Bool, List, ap, sym, arith, count_by}
use Rattle.std.proofs.lemmas.List.{take_all}
use Rattle.lat_base.specs.Tally.{votes_for}
use Rattle.lat_tabulate.proofs.Own.{own_votes}
use Rattle.lat_tabulate.proofs.totals.total.Goals as goal

pub returns-clause-votes : goal.returns-clause-votes
returns-clause-votes c =
    c.loop-j.invariant.count
    ∙ ap (λ (bs : List (List Bool)). count_by (λ b. votes_for c.args.shape.now b c.args.u) bs) (take_all c.loop-j.j c.args.deck.now.ballots (omega arith))
    ∙ sym (own_votes c.args.shape.now c.args.deck.now c.args.u c.ballots-j-end.ensures.deck c.requires.targets)

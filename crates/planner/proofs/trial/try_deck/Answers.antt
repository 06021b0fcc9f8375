use Rattle.std.proofs.Common.{◌≡◌, length, subst}
use Rattle.planner.specs.Searched.{IsGoodOf}
use Rattle.planner.proofs.Trials.{copy_good, copy_evaded}
use Rattle.planner.proofs.trial.try_deck.Goals as goal

pub returns-in-Robust-clause-some : goal.returns-in-Robust-clause-some
returns-in-Robust-clause-some c = λ proved e.
    let attacked = rw c.in-Robust.is at c.in_ok-tree.ensures.attack in
    let same : record { deck = c.in_ok-copy.copy; robust = c.in-Robust.tree } ≡ proved = cc in
    subst (IsGoodOf c.args.shape.now c.args.rules.now (length c.args.deck.ballots)) same
    (copy_good c.args.shape.now c.args.rules.now c.args.deck c.in_ok-copy.copy c.ballots-ballots.ensures.deck c.requires.targets c.in_ok-copy.ensures.reordered
    c.in-Robust.tree c.targets-targets.ensures.deck c.in_ok-copy.ensures.targets c.in_ok-copy.ensures.canonical (c.keeps_rules.ensures.0 c.if-not-keeps_rules.false) attacked.0 attacked.1)

pub returns-in-Evaded-clause-none : goal.returns-in-Evaded-clause-none
returns-in-Evaded-clause-none c = λ e obeyed.
    copy_evaded c.args.shape.now c.args.rules.now c.args.deck c.in_ok-copy.copy c.ballots-ballots.ensures.deck c.requires.targets c.in_ok-copy.ensures.reordered
    c.args.budget c.in-Evaded.field-0 (c.in_ok-copy.ensures.good c.args.rules.now) (rw c.in-Evaded.is at c.in_ok-tree.ensures.attack) obeyed

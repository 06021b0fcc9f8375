use Rattle.std.proofs.Common.{subst, refl, false}
use Rattle.tree_core.specs.Places.{IsFirstFault}
use Rattle.tree_core.specs.Reading.{tree_of}
use Rattle.tree_core.proofs.Empty.{no_solution}
use Rattle.tree_core.proofs.check.check_tree.Goals as goal

pub returns-clause-fails : goal.returns-clause-fails
returns-clause-fails g c = λ i e.
    subst (λ ns. IsFirstFault false (g.S.Space.steps c.args.space.now) c.args.state.now ns i) c.as_slice.ensures.nodes (c.check_with.ensures.fails i e)

pub returns-clause-empty : goal.returns-clause-empty
returns-clause-empty g c = λ e v x.
    let law = c.laws.ensures in
    no_solution (g.S.Space.steps c.args.space.now) (g.S.Space.is_own c.args.space.now) (g.S.Space.is_solution c.args.space.now) law.keeps_own law.closed_is_empty law.split
    (tree_of c.as_slice.result.now) c.args.state.now v c.requires ((rw e at c.check_with.ensures.checks).0 refl) x

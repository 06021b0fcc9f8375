use Rattle.std.proofs.Common.{subst, true}
use Rattle.tree_core.specs.Places.{IsFirstFault}
use Rattle.tree_core.proofs.check.check_open.Goals as goal

pub returns-clause-fails : goal.returns-clause-fails
returns-clause-fails g c = λ i e.
    subst (λ ns. IsFirstFault true (g.S.Space.steps c.args.space.now) c.args.state.now ns i) c.as_slice.ensures.nodes (c.check_with.ensures.fails i e)

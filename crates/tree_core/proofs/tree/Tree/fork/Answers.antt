use Rattle.std.proofs.Common.{rules, ◌≡◌, length, vec_len, ap, ◌∙◌}
use Rattle.std.proofs.IntoIterSteps.{All-taken}
use Rattle.tree_core.proofs.Trees.{IsTree-fork}
use Rattle.tree_core.proofs.tree.Tree.fork.Goals as goal

pub invariant_of-result : goal.invariant_of-result
invariant_of-result g c =
    let all : c.loop-kid.yielded ≡ c.args.kids.items =
    All-taken c.into_iter-kid-iterator.result c.loop-kid.yielded (c.next.new.self, (c.loop-kid.kid-iterator, c.loop-kid.yielded_by, c.in-None.ensures.steps))
    ∙ c.into_iter-kid-iterator.ensures.into_iter_gives.0 in
    let long : length c.loop-kid.yielded ≡ vec_len c.args.kids = ap length all ∙ (search rules) in
    rw (c.loop-kid.invariant.nodes, ← long) (IsTree-fork c.args.label c.loop-kid.yielded c.loop-kid.invariant.trees)

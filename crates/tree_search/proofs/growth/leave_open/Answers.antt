use Rattle.std.proofs.Common.{◌≡◌, ◌<◌, ◌∷◌, ◌++◌, [], suc, sym, ap, subst, Ok, ◌∙◌, reverse}
use Rattle.tree_core.specs.declared.node.Node.TheVariants.{Open}
use Rattle.tree_core.specs.Walk.{IsAt}
use Rattle.tree_core.proofs.Walks.{stands_own}
use Rattle.tree_search.proofs.Left.{left_of, fewer}
use Rattle.tree_search.proofs.Opens.{more_open}
use Rattle.tree_search.proofs.growth.leave_open.Goals as goal

pub add_node-requires-clause-own : goal.add_node-requires-clause-own
add_node-requires-clause-own g c =
    let at = c.rest.invariant.at c.requires.0 c.requires.1 in
    stands_own (g.S.Space.steps c.args.space.now) (g.S.Space.is_own c.args.space.now) c.laws.ensures.keeps_own c.rest.nodes.items c.requires.0 (reverse c.rest.way.items) c.rest.state at.to_come at.stands

pub rest-smaller : goal.rest-smaller
rest-smaller g c =
    let steps = g.S.Space.steps c.args.space.now in
    let own = g.S.Space.is_own c.args.space.now in
    let w = c.requires in
    let at = c.rest.invariant.at w.0 w.1 in
    let nodes : c.add_node.new.nodes.items ≡ c.rest.nodes.items ++ (Open ∷ []) = c.in_ok-add_node.ensures.nodes in
    let next = c.in_ok-add_node.ensures.next (ap Ok c.if-branch.true) w.0 at in
    let f = fewer steps own c.rest.nodes.items w.0 (reverse c.rest.way.items) (reverse c.add_node.new.way.items) c.rest.state c.add_node.new.state at
    (subst (λ ns. IsAt steps own w.0 ns (reverse c.add_node.new.way.items) c.add_node.new.state) nodes next) in
    subst (λ ns. left_of ns (reverse c.add_node.new.way.items) < left_of c.rest.nodes.items (reverse c.rest.way.items)) (sym nodes) f

pub rest-preserved : goal.rest-preserved
rest-preserved g c = record {
  at = λ root at. c.in_ok-add_node.ensures.next (ap Ok c.if-branch.true) root (c.rest.invariant.at root at);
  opened = (suc c.rest.invariant.opened.0, c.in_ok-add_node.ensures.nodes ∙ more_open c.args.nodes.now.items c.rest.nodes.items c.rest.invariant.opened.0 c.rest.invariant.opened.1);
}

pub returns-clause-nodes : goal.returns-clause-nodes
returns-clause-nodes g c =
    (c.rest.invariant.opened.0, c.in_ok-add_node.ensures.nodes ∙ more_open c.args.nodes.now.items c.rest.nodes.items c.rest.invariant.opened.0 c.rest.invariant.opened.1)

pub returns-clause-end : goal.returns-clause-end
returns-clause-end g c = λ root at. c.in_ok-add_node.ensures.end (ap Ok c.if-branch.false) root (c.rest.invariant.at root at)

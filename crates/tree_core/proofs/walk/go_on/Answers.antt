use Rattle.std.proofs.Common.{arith, ◌≡◌, ℕ, sym, ◌∙◌}
use Rattle.tree_core.specs.declared.node.Node.TheVariants.{Fork}
use Rattle.tree_core.proofs.Lists.{read_node, node_is}
use Rattle.tree_core.proofs.Walks.{to_first, no_kids, kids_are}
use Rattle.tree_core.specs.Walk.{places_of}
use Rattle.tree_core.proofs.Stack.{places_first, places_more}
use Rattle.tree_core.proofs.walk.go_on.Goals as goal
use Rattle.tree_core.proofs.walk.go_on.Goals.{in-Fork+else-kids-gt0, in_default}

pub enter-requires-clause-kid : goal.enter-requires-clause-kid
enter-requires-clause-kid g c =
    let fork = Fork c.in-Fork.label c.in-Fork.kids in
    let read = read_node c.args.nodes.now c.args.place c.index-nodes-place.result fork c.requires.place c.index-nodes-place.is c.in-Fork.is in
    (c.in-Fork.kids, c.requires.holds fork read, omega arith)

pub returns-then-kids-gt0-clause-ok : goal.returns-then-kids-gt0-clause-ok
returns-then-kids-gt0-clause-ok g c = λ root to_come node h at.
    let steps = g.S.Space.steps c.args.space.now in
    let own = g.S.Space.is_own c.args.space.now in
    let read = read_node c.args.nodes.now c.args.place c.index-nodes-place.result (Fork c.in-Fork.label c.in-Fork.kids) c.requires.place c.index-nodes-place.is c.in-Fork.is in
    let is : node ≡ Fork c.in-Fork.label c.in-Fork.kids = sym (node_is c.args.nodes.now c.args.place c.index-nodes-place.result node at c.index-nodes-place.is) ∙ c.in-Fork.is in
    rw (is, c.in_ok-push.ensures.items, c.enter.ensures)
    (to_first steps own c.args.nodes.now root c.args.place c.args.way.now.items c.args.state.now to_come c.in-Fork.label c.in-Fork.kids c.requires.own (c.requires.holds _ read) (omega arith) read h)

pub returns-clause-ok : goal.returns-clause-ok
returns-clause-ok g c = λ root to_come node h at.
    let is : c.index-nodes-place.result ≡ node = node_is c.args.nodes.now c.args.place c.index-nodes-place.result node at c.index-nodes-place.is in
    let none : (l : _) (n : ℕ) → node ≡ Fork l n → n ≡ 0 =
    elim c.match-nodes-place.branch [
      | in-Fork+else-kids-gt0 w ↦ λ l n e. let k = kids_are c.index-nodes-place.result _ _ _ _ (is ∙ e) w.in-Fork.is in omega (arith, k, w.if-kids-gt0.false)
      | in_default w ↦ λ l n e. absurd (w.in_default.not-Fork l n (is ∙ e))
    ] in
    rw (no_kids (g.S.Space.steps c.args.space.now) (g.S.Space.is_own c.args.space.now) c.args.state.now to_come node none) (c.next_place.ensures.lands root to_come h)

pub returns-then-kids-gt0-clause-places : goal.returns-then-kids-gt0-clause-places
returns-then-kids-gt0-clause-places g c = places_first c.args.way.now.items c.push.new.self.items c.args.place 1 c.in_ok-push.ensures.items

pub returns-clause-places : goal.returns-clause-places
returns-clause-places g c = places_more c.args.way.now.items c.next_place.new.way.items c.args.place c.next_place.ensures.places

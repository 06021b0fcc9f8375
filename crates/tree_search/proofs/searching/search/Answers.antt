use Rattle.std.proofs.Common.{arith, false, ◌+◌, ◌≡◌, ◌≤◌, sym, ap, subst, Ok, ◌∙◌, reverse, count_by}
use Rattle.tree_core.specs.Reading.{tree_of}
use Rattle.tree_core.specs.Nodes.{is_pick}
use Rattle.tree_core.proofs.Empty.{no_solution}
use Rattle.tree_core.proofs.Walks.{stands_own, weaken}
use Rattle.tree_core.proofs.Below.{stands_below, below_solution}
use Rattle.tree_search.specs.Memory.{Follows}
use Rattle.tree_search.proofs.Progress.{keeps_keeps, picked_more, picked_checks, opened_tree, opened_gapless, opened_follows, opened_halted, halt_memory}
use Rattle.tree_search.proofs.searching.search.Goals as goal

pub take_turn-requires : goal.take_turn-requires
take_turn-requires g c =
    let at = c.loop-picked.invariant.at in
    stands_own (g.S.Space.steps c.args.space.now) (g.S.Space.is_own c.args.space.now) c.laws.ensures.keeps_own c.loop-picked.nodes.items c.args.state.now (reverse c.loop-picked.way.items) c.loop-picked.state at.to_come at.stands

pub add_node-requires-clause-own : goal.add_node-requires-clause-own
add_node-requires-clause-own g c =
    let at = c.loop-picked.invariant.at in
    stands_own (g.S.Space.steps c.args.space.now) (g.S.Space.is_own c.args.space.now) c.laws.ensures.keeps_own c.loop-picked.nodes.items c.args.state.now (reverse c.loop-picked.way.items) c.loop-picked.state at.to_come at.stands

pub add_node-requires-clause-holds : goal.add_node-requires-clause-holds
add_node-requires-clause-holds g c =
    weaken false (g.S.Space.steps c.args.space.now) c.loop-picked.state c.in-Go.node (c.in_ok-node.ensures.go c.in-Go.node (ap Ok c.in-Go.is)).holds

pub from_nodes-requires : goal.from_nodes-requires
from_nodes-requires g c = (c.in_ok-add_node-in-Go.ensures.end (ap Ok c.if-not-branch.true) c.args.state.now c.loop-picked.invariant.at).0

pub returns-then-not-branch-clause-closed : goal.returns-then-not-branch-clause-closed
returns-then-not-branch-clause-closed g c = λ t e.
    let steps = g.S.Space.steps c.args.space.now in
    let more = picked_more steps (g.C.Chooser.habits c.args.chooser.now c.args.space.now) c.args.state.now (g.C.Chooser.memory c.args.chooser.now) (g.S.Space.is_own c.args.space.now)
    (g.C.Chooser.habits c.loop-picked.chooser c.args.space.now) c.loop-picked.nodes.items c.add_node.new.nodes.items (reverse c.loop-picked.way.items) c.loop-picked.state c.in-Go.node
    (g.C.Chooser.memory c.loop-picked.chooser) (g.C.Chooser.memory c.take_turn.new.chooser) c.loop-picked.picked c.in_ok-add_node-in-Go.ensures.nodes
    c.loop-picked.invariant.picked c.loop-picked.invariant.at c.loop-picked.invariant.keeps (c.in_ok-node.ensures.go c.in-Go.node (ap Ok c.in-Go.is)) in
    let end = c.in_ok-add_node-in-Go.ensures.end (ap Ok c.if-not-branch.true) c.args.state.now c.loop-picked.invariant.at in
    let given : c.from_nodes.result ≡ t = cc in
    let same : c.add_node.new.nodes.items ≡ t = sym c.from_nodes.ensures ∙ given in
    let few : count_by is_pick c.add_node.new.nodes.items ≤ c.args.budget = omega (arith, more.count, c.loop-picked-test.true) in
    rw (← same) (picked_checks steps (g.C.Chooser.habits c.args.chooser.now c.args.space.now) c.args.state.now (g.C.Chooser.memory c.args.chooser.now) c.add_node.new.nodes.items (g.C.Chooser.memory c.take_turn.new.chooser) (c.loop-picked.picked + 1) more end.0, few, end.1)

pub returns-then-not-branch-clause-empty : goal.returns-then-not-branch-clause-empty
returns-then-not-branch-clause-empty g c = λ t e v x.
    let steps = g.S.Space.steps c.args.space.now in
    let more = picked_more steps (g.C.Chooser.habits c.args.chooser.now c.args.space.now) c.args.state.now (g.C.Chooser.memory c.args.chooser.now) (g.S.Space.is_own c.args.space.now)
    (g.C.Chooser.habits c.loop-picked.chooser c.args.space.now) c.loop-picked.nodes.items c.add_node.new.nodes.items (reverse c.loop-picked.way.items) c.loop-picked.state c.in-Go.node
    (g.C.Chooser.memory c.loop-picked.chooser) (g.C.Chooser.memory c.take_turn.new.chooser) c.loop-picked.picked c.in_ok-add_node-in-Go.ensures.nodes
    c.loop-picked.invariant.picked c.loop-picked.invariant.at c.loop-picked.invariant.keeps (c.in_ok-node.ensures.go c.in-Go.node (ap Ok c.in-Go.is)) in
    let end = c.in_ok-add_node-in-Go.ensures.end (ap Ok c.if-not-branch.true) c.args.state.now c.loop-picked.invariant.at in
    let law = c.laws.ensures in
    no_solution steps (g.S.Space.is_own c.args.space.now) (g.S.Space.is_solution c.args.space.now) law.keeps_own law.closed_is_empty law.split
    (tree_of c.add_node.new.nodes.items) c.args.state.now v c.requires.own (picked_checks steps (g.C.Chooser.habits c.args.chooser.now c.args.space.now) c.args.state.now (g.C.Chooser.memory c.args.chooser.now) c.add_node.new.nodes.items (g.C.Chooser.memory c.take_turn.new.chooser) (c.loop-picked.picked + 1) more end.0) x

pub returns-then-not-branch-clause-follows_closed : goal.returns-then-not-branch-clause-follows_closed
returns-then-not-branch-clause-follows_closed g c = λ t e.
    let steps = g.S.Space.steps c.args.space.now in
    let habits = g.C.Chooser.habits c.args.chooser.now c.args.space.now in
    let memory = g.C.Chooser.memory c.args.chooser.now in
    let later = g.C.Chooser.memory c.take_turn.new.chooser in
    let more = picked_more steps habits c.args.state.now memory (g.S.Space.is_own c.args.space.now)
    (g.C.Chooser.habits c.loop-picked.chooser c.args.space.now) c.loop-picked.nodes.items c.add_node.new.nodes.items (reverse c.loop-picked.way.items) c.loop-picked.state c.in-Go.node
    (g.C.Chooser.memory c.loop-picked.chooser) later c.loop-picked.picked c.in_ok-add_node-in-Go.ensures.nodes
    c.loop-picked.invariant.picked c.loop-picked.invariant.at c.loop-picked.invariant.keeps (c.in_ok-node.ensures.go c.in-Go.node (ap Ok c.in-Go.is)) in
    let given : c.from_nodes.result ≡ t = cc in
    let same : c.add_node.new.nodes.items ≡ t = sym c.from_nodes.ensures ∙ given in
    subst (λ ns. Follows habits steps c.args.state.now memory later ns) same more.follows

pub returns-then-not-branch-clause-same : goal.returns-then-not-branch-clause-same
returns-then-not-branch-clause-same g c = keeps_keeps _ _ _ c.loop-picked.invariant.keeps c.in_ok-node.ensures.same

pub loop-picked-preserved : goal.loop-picked-preserved
loop-picked-preserved g c =
    let more = picked_more (g.S.Space.steps c.args.space.now) (g.C.Chooser.habits c.args.chooser.now c.args.space.now) c.args.state.now (g.C.Chooser.memory c.args.chooser.now) (g.S.Space.is_own c.args.space.now)
    (g.C.Chooser.habits c.loop-picked.chooser c.args.space.now) c.loop-picked.nodes.items c.add_node.new.nodes.items (reverse c.loop-picked.way.items) c.loop-picked.state c.in-Go.node
    (g.C.Chooser.memory c.loop-picked.chooser) (g.C.Chooser.memory c.take_turn.new.chooser) c.loop-picked.picked c.in_ok-add_node-in-Go.ensures.nodes
    c.loop-picked.invariant.picked c.loop-picked.invariant.at c.loop-picked.invariant.keeps (c.in_ok-node.ensures.go c.in-Go.node (ap Ok c.in-Go.is)) in
    record {
      at = c.in_ok-add_node-in-Go.ensures.next (ap Ok c.if-not-branch.false) c.args.state.now c.loop-picked.invariant.at;
      picked = more;
      keeps = keeps_keeps (g.C.Chooser.habits c.args.chooser.now c.args.space.now) (g.C.Chooser.habits c.loop-picked.chooser c.args.space.now) (g.C.Chooser.habits c.take_turn.new.chooser c.args.space.now) c.loop-picked.invariant.keeps c.in_ok-node.ensures.same;
      within = omega arith;
    }

pub returns-in-Found-clause-found : goal.returns-in-Found-clause-found
returns-in-Found-clause-found g c = λ q e.
    let steps = g.S.Space.steps c.args.space.now in
    let own = g.S.Space.is_own c.args.space.now in
    let at = c.loop-picked.invariant.at in
    let keeps = c.loop-picked.invariant.keeps in
    let found = c.in_ok-node.ensures.found c.in-Found.proof (ap Ok c.in-Found.is) in
    let lies = stands_below steps own c.loop-picked.nodes.items c.args.state.now (reverse c.loop-picked.way.items) c.loop-picked.state at.to_come at.stands in
    let value = g.S.Space.value c.args.space.now c.loop-picked.state in
    let same : c.in-Found.proof ≡ q = cc in
    rw (← same) (record {
      lies_below = lies;
      is_own = stands_own steps own c.laws.ensures.keeps_own c.loop-picked.nodes.items c.args.state.now (reverse c.loop-picked.way.items) c.loop-picked.state at.to_come at.stands;
      is_complete = found.0.0;
      is_solution = below_solution steps own (g.S.Space.is_solution c.args.space.now) value
          (λ s l n o a k below x. (c.laws.ensures.split s l n value o a).1 (k, below, x)) c.args.state.now c.loop-picked.state lies found.0.1;
      proved = (keeps.proves c.loop-picked.state c.in-Found.proof).0 found.1;
      memory = g.C.Chooser.memory c.loop-picked.chooser;
      related = (keeps.relation _ c.loop-picked.state _).0 found.2;
    })

pub from_nodes-requires-in-Halt : goal.from_nodes-requires-in-Halt
from_nodes-requires-in-Halt g c = (c.in_ok-leave_open-in-Halt.ensures.end c.args.state.now c.loop-picked.invariant.at).0

pub returns-in-Halt-clause-halted : goal.returns-in-Halt-clause-halted
returns-in-Halt-clause-halted g c = λ t w e.
    let steps = g.S.Space.steps c.args.space.now in
    let habits = g.C.Chooser.habits c.args.chooser.now c.args.space.now in
    let memory = g.C.Chooser.memory c.args.chooser.now in
    let old = c.loop-picked.nodes.items in
    let new = c.leave_open.new.nodes.items in
    let m = g.C.Chooser.memory c.loop-picked.chooser in
    let picked = c.loop-picked.invariant.picked in
    let opened = c.in_ok-leave_open-in-Halt.ensures.nodes in
    let end = c.in_ok-leave_open-in-Halt.ensures.end c.args.state.now c.loop-picked.invariant.at in
    let said = c.in_ok-node.ensures.halt c.in-Halt.why (ap Ok c.in-Halt.is) in
    let given : c.from_nodes-in-Halt.result ≡ t = cc in
    let why : c.in-Halt.why ≡ w = cc in
    let same : c.leave_open.new.nodes.items ≡ t = sym c.from_nodes-in-Halt.ensures ∙ given in
    rw (← same, ← why) (
      c.loop-picked.picked,
      c.loop-picked-test.true,
      opened_tree steps habits c.args.state.now memory old new m c.loop-picked.picked picked opened end.0,
      opened_gapless steps habits c.args.state.now memory old new m c.loop-picked.picked picked opened,
      opened_halted steps habits c.args.state.now memory old new m c.loop-picked.picked picked opened (g.S.Space.is_own c.args.space.now) (g.C.Chooser.habits c.loop-picked.chooser c.args.space.now) (reverse c.loop-picked.way.items) c.loop-picked.state c.in-Halt.why c.loop-picked.invariant.at c.loop-picked.invariant.keeps said.0 said.1,
      end.1,
    )

pub returns-in-Halt-clause-follows_halted : goal.returns-in-Halt-clause-follows_halted
returns-in-Halt-clause-follows_halted g c = λ t w e.
    let steps = g.S.Space.steps c.args.space.now in
    let habits = g.C.Chooser.habits c.args.chooser.now c.args.space.now in
    let memory = g.C.Chooser.memory c.args.chooser.now in
    let m = g.C.Chooser.memory c.loop-picked.chooser in
    let said = c.in_ok-node.ensures.halt c.in-Halt.why (ap Ok c.in-Halt.is) in
    let given : c.from_nodes-in-Halt.result ≡ t = cc in
    let why : c.in-Halt.why ≡ w = cc in
    let same : c.leave_open.new.nodes.items ≡ t = sym c.from_nodes-in-Halt.ensures ∙ given in
    rw (← same, ← why) (
      m,
      halt_memory steps habits c.args.state.now memory (g.C.Chooser.habits c.loop-picked.chooser c.args.space.now) m (g.C.Chooser.memory c.take_turn.new.chooser) c.in-Halt.why c.loop-picked.invariant.keeps said.2,
      opened_follows steps habits c.args.state.now memory c.loop-picked.nodes.items c.leave_open.new.nodes.items m c.loop-picked.picked c.loop-picked.invariant.picked c.in_ok-leave_open-in-Halt.ensures.nodes,
    )

pub returns-in-Halt-clause-same : goal.returns-in-Halt-clause-same
returns-in-Halt-clause-same g c = keeps_keeps _ _ _ c.loop-picked.invariant.keeps c.in_ok-node.ensures.same

pub from_nodes-requires-2 : goal.from_nodes-requires-2
from_nodes-requires-2 g c = (c.in_ok-leave_open.ensures.end c.args.state.now c.loop-picked.invariant.at).0

pub returns-clause-spent : goal.returns-clause-spent
returns-clause-spent g c = λ t e.
    let steps = g.S.Space.steps c.args.space.now in
    let habits = g.C.Chooser.habits c.args.chooser.now c.args.space.now in
    let memory = g.C.Chooser.memory c.args.chooser.now in
    let m = g.C.Chooser.memory c.loop-picked.chooser in
    let old = c.loop-picked.nodes.items in
    let new = c.leave_open-2.new.nodes.items in
    let picked = c.loop-picked.invariant.picked in
    let opened = c.in_ok-leave_open.ensures.nodes in
    let end = c.in_ok-leave_open.ensures.end c.args.state.now c.loop-picked.invariant.at in
    let given : c.from_nodes-2.result ≡ t = cc in
    let same : c.leave_open-2.new.nodes.items ≡ t = sym c.from_nodes-2.ensures ∙ given in
    let all : c.loop-picked.picked ≡ c.args.budget = omega arith in
    rw (← same, ← all) (
      opened_tree steps habits c.args.state.now memory old new m c.loop-picked.picked picked opened end.0,
      opened_gapless steps habits c.args.state.now memory old new m c.loop-picked.picked picked opened,
      end.1,
    )

pub returns-clause-follows_spent : goal.returns-clause-follows_spent
returns-clause-follows_spent g c = λ t e.
    let steps = g.S.Space.steps c.args.space.now in
    let habits = g.C.Chooser.habits c.args.chooser.now c.args.space.now in
    let memory = g.C.Chooser.memory c.args.chooser.now in
    let m = g.C.Chooser.memory c.loop-picked.chooser in
    let given : c.from_nodes-2.result ≡ t = cc in
    let same : c.leave_open-2.new.nodes.items ≡ t = sym c.from_nodes-2.ensures ∙ given in
    subst (λ ns. Follows habits steps c.args.state.now memory m ns) same
    (opened_follows steps habits c.args.state.now memory c.loop-picked.nodes.items c.leave_open-2.new.nodes.items m c.loop-picked.picked c.loop-picked.invariant.picked c.in_ok-leave_open.ensures.nodes)

use Rattle.std.proofs.Common.{arith, ◌≡◌, List, ap, subst, refl, Some, reverse, take, add-one}
use Rattle.std.specs.List.{slice_get}
use Rattle.std.proofs.lemmas.List.{take_all}
use Rattle.tree_core.specs.Checks.{NodeHolds}
use Rattle.tree_core.specs.Places.{IsFirstFault, state_at}
use Rattle.tree_core.proofs.Lists.{read_node, node_is}
use Rattle.tree_core.proofs.Ahead.{ahead-next}
use Rattle.tree_core.proofs.Each.{each_next}
use Rattle.tree_core.proofs.Holding.{checks_from_each}
use Rattle.tree_core.proofs.Walks.{stands_own, weaken}
use Rattle.tree_core.proofs.Moves.{at_place, lands_on_way}
use Rattle.tree_core.proofs.check.first_fault.Goals as goal

pub node_holds-requires : goal.node_holds-requires
node_holds-requires g c =
    let steps = g.S.Space.steps c.args.space.now in
    let own = g.S.Space.is_own c.args.space.now in
    let p = at_place steps own c.args.nodes.now c.args.state.now (reverse c.loop-i.way.items) c.loop-i.i c.loop-i.state c.loop-i.invariant.lands.0 c.requires.tree (omega arith) c.loop-i.invariant.lands.1 in
    stands_own steps own c.laws.ensures.keeps_own c.args.nodes.now c.args.state.now (reverse c.loop-i.way.items) c.loop-i.state p.0 p.2

pub returns-then-not-node_holds-clause-fault : goal.returns-then-not-node_holds-clause-fault
returns-then-not-node_holds-clause-fault g c = λ i e.
    let steps = g.S.Space.steps c.args.space.now in
    let own = g.S.Space.is_own c.args.space.now in
    let p = at_place steps own c.args.nodes.now c.args.state.now (reverse c.loop-i.way.items) c.loop-i.i c.loop-i.state c.loop-i.invariant.lands.0 c.requires.tree (omega arith) c.loop-i.invariant.lands.1 in
    let same : c.loop-i.i ≡ i = cc in
    subst (λ j. IsFirstFault c.args.open_holds steps c.args.state.now c.args.nodes.now j) same
    (record {
      before = c.loop-i.invariant.holds;
      state = c.loop-i.state;
      node = c.index-nodes-i.result;
      at_place = ap (λ (xs : List _). slice_get xs 0) p.1;
      is_node = read_node c.args.nodes.now c.loop-i.i c.index-nodes-i.result c.index-nodes-i.result (omega arith) c.index-nodes-i.is refl;
      fails = λ h. let yes = c.node_holds.ensures.1 h in let no = c.if-not-node_holds.true in cc;
    })

pub returns-then-not-node_holds-clause-way : goal.returns-then-not-node_holds-clause-way
returns-then-not-node_holds-clause-way g c =
    let steps = g.S.Space.steps c.args.space.now in
    let own = g.S.Space.is_own c.args.space.now in
    lands_on_way steps own c.args.nodes.now c.args.state.now (reverse c.loop-i.way.items) c.loop-i.state c.loop-i.invariant.lands.0 _ c.requires.own c.loop-i.invariant.lands.1

pub go_on-requires-clause-own : goal.go_on-requires-clause-own
go_on-requires-clause-own g c =
    let steps = g.S.Space.steps c.args.space.now in
    let own = g.S.Space.is_own c.args.space.now in
    let p = at_place steps own c.args.nodes.now c.args.state.now (reverse c.loop-i.way.items) c.loop-i.i c.loop-i.state c.loop-i.invariant.lands.0 c.requires.tree (omega arith) c.loop-i.invariant.lands.1 in
    stands_own steps own c.laws.ensures.keeps_own c.args.nodes.now c.args.state.now (reverse c.loop-i.way.items) c.loop-i.state p.0 p.2

pub go_on-requires-clause-stands : goal.go_on-requires-clause-stands
go_on-requires-clause-stands g c =
    let steps = g.S.Space.steps c.args.space.now in
    let own = g.S.Space.is_own c.args.space.now in
    let p = at_place steps own c.args.nodes.now c.args.state.now (reverse c.loop-i.way.items) c.loop-i.i c.loop-i.state c.loop-i.invariant.lands.0 c.requires.tree (omega arith) c.loop-i.invariant.lands.1 in
    (c.args.state.now, p.0, p.2)

pub go_on-requires-clause-holds : goal.go_on-requires-clause-holds
go_on-requires-clause-holds g c = λ node at.
    let is = node_is c.args.nodes.now c.loop-i.i c.index-nodes-i.result node at c.index-nodes-i.is in
    rw (← is) (weaken c.args.open_holds (g.S.Space.steps c.args.space.now) c.loop-i.state c.index-nodes-i.result (c.node_holds.ensures.0 c.if-not-node_holds.false))

pub returns-in_err-go_on-clause-way : goal.returns-in_err-go_on-clause-way
returns-in_err-go_on-clause-way g c =
    let steps = g.S.Space.steps c.args.space.now in
    let own = g.S.Space.is_own c.args.space.now in
    rw (c.in_err-go_on.ensures.err_state, c.in_err-go_on.ensures.err_way)
    (lands_on_way steps own c.args.nodes.now c.args.state.now (reverse c.loop-i.way.items) c.loop-i.state c.loop-i.invariant.lands.0 _ c.requires.own c.loop-i.invariant.lands.1)

pub loop-i-preserved : goal.loop-i-preserved
loop-i-preserved g c =
    let steps = g.S.Space.steps c.args.space.now in
    let own = g.S.Space.is_own c.args.space.now in
    let p = at_place steps own c.args.nodes.now c.args.state.now (reverse c.loop-i.way.items) c.loop-i.i c.loop-i.state c.loop-i.invariant.lands.0 c.requires.tree (omega arith) c.loop-i.invariant.lands.1 in
    let state : state_at steps c.args.state.now c.args.nodes.now c.loop-i.i ≡ Some c.loop-i.state = ap (λ (xs : List _). slice_get xs 0) p.1 in
    let get : slice_get c.args.nodes.now c.loop-i.i ≡ Some c.index-nodes-i.result = read_node c.args.nodes.now c.loop-i.i c.index-nodes-i.result c.index-nodes-i.result (omega arith) c.index-nodes-i.is refl in
    let next = ahead-next steps c.args.state.now c.args.nodes.now c.loop-i.i c.index-nodes-i.result get in
    rw add-one (record {
      holds = each_next steps c.args.state.now c.args.nodes.now c.loop-i.i c.index-nodes-i.result c.loop-i.state (λ _ s node. NodeHolds c.args.open_holds steps s node) c.loop-i.invariant.holds get state (c.node_holds.ensures.0 c.if-not-node_holds.false);
      lands = (c.in_ok-go_on.field-0, rw (next, p.1) (c.in_ok-go_on.ensures.ok c.args.state.now p.0 c.index-nodes-i.result p.2 get));
    })

pub returns-clause-none : goal.returns-clause-none
returns-clause-none g c = λ _.
    let all : take c.loop-i.i c.args.nodes.now ≡ c.args.nodes.now = take_all c.loop-i.i c.args.nodes.now (omega arith) in
    checks_from_each (g.S.Space.steps c.args.space.now) c.args.open_holds c.args.state.now c.args.nodes.now c.requires.tree (rw all at c.loop-i.invariant.holds)

pub returns-clause-way : goal.returns-clause-way
returns-clause-way g c =
    let steps = g.S.Space.steps c.args.space.now in
    let own = g.S.Space.is_own c.args.space.now in
    lands_on_way steps own c.args.nodes.now c.args.state.now (reverse c.loop-i.way.items) c.loop-i.state c.loop-i.invariant.lands.0 _ c.requires.own c.loop-i.invariant.lands.1

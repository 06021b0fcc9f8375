use Rattle.std.proofs.Common.{arith, ◌≡◌, ◌<◌, length, refl, true}
use Rattle.std.proofs.lemmas.Option.{slice_get_within}
use Rattle.tree_core.specs.declared.node.Node.TheVariants.{Fork}
use Rattle.tree_core.proofs.Lists.{node_is}
use Rattle.tree_core.proofs.Walks.{popped, pushed, entered_kid, label_is, kids_are, to_kid, to_fork}
use Rattle.tree_core.specs.Walk.{places_of}
use Rattle.tree_core.proofs.Stack.{places_up, places_last, places_back}
use Rattle.tree_core.proofs.walk.next_place.Goals as goal

pub go_up-requires : goal.go_up-requires
go_up-requires g c = λ e outer last.
    let steps = g.S.Space.steps c.args.space.now in
    let own = g.S.Space.is_own c.args.space.now in
    let w = c.requires in
    let t = popped steps own c.args.nodes.now w.0 c.loop-entry.way.items outer e c.loop-entry.state w.1 last (c.loop-entry.invariant.stands w.0 w.1 w.2) in
    (t.0, t.2.label, t.2.kid, entered_kid steps own c.args.nodes.now e t.0 c.loop-entry.state w.1 t.1 t.2)

pub bounds-nodes-entry : goal.bounds-nodes-entry
bounds-nodes-entry g c =
    let w = c.requires in
    let e = c.in-Some.entry in
    let t = popped (g.S.Space.steps c.args.space.now) (g.S.Space.is_own c.args.space.now) c.args.nodes.now w.0 c.loop-entry.way.items c.go_up.new.way.items e c.loop-entry.state w.1 c.in-Some.ensures.up (c.loop-entry.invariant.stands w.0 w.1 w.2) in
    slice_get_within c.args.nodes.now e.node (Fork t.2.label t.2.kids) t.2.node

pub offset_bounds-nodes-entry : goal.offset_bounds-nodes-entry
offset_bounds-nodes-entry g c =
    let w = c.requires in
    let e = c.in-Some.entry in
    let t = popped (g.S.Space.steps c.args.space.now) (g.S.Space.is_own c.args.space.now) c.args.nodes.now w.0 c.loop-entry.way.items c.go_up.new.way.items e c.loop-entry.state w.1 c.in-Some.ensures.up (c.loop-entry.invariant.stands w.0 w.1 w.2) in
    let h : e.node < length c.args.nodes.now = slice_get_within c.args.nodes.now e.node (Fork t.2.label t.2.kids) t.2.node in
    omega arith

pub unreachable-requires : goal.unreachable-requires
unreachable-requires g c =
    let w = c.requires in
    let e = c.in-Some.entry in
    let t = popped (g.S.Space.steps c.args.space.now) (g.S.Space.is_own c.args.space.now) c.args.nodes.now w.0 c.loop-entry.way.items c.go_up.new.way.items e c.loop-entry.state w.1 c.in-Some.ensures.up (c.loop-entry.invariant.stands w.0 w.1 w.2) in
    c.in_default-nodes.not-Fork t.2.label t.2.kids (node_is c.args.nodes.now e.node c.index-nodes-entry.result (Fork t.2.label t.2.kids) t.2.node c.index-nodes-entry.is)

pub enter-requires-clause-own : goal.enter-requires-clause-own
enter-requires-clause-own g c =
    let steps = g.S.Space.steps c.args.space.now in
    let own = g.S.Space.is_own c.args.space.now in
    let w = c.requires in
    let e = c.in-Some.entry in
    let t = popped steps own c.args.nodes.now w.0 c.loop-entry.way.items c.go_up.new.way.items e c.loop-entry.state w.1 c.in-Some.ensures.up (c.loop-entry.invariant.stands w.0 w.1 w.2) in
    let kid = entered_kid steps own c.args.nodes.now e t.0 c.loop-entry.state w.1 t.1 t.2 in
    rw (c.in-Some.ensures.left t.0 t.2.label t.2.kid kid) t.2.is_own

pub enter-requires-clause-kid : goal.enter-requires-clause-kid
enter-requires-clause-kid g c =
    let steps = g.S.Space.steps c.args.space.now in
    let own = g.S.Space.is_own c.args.space.now in
    let w = c.requires in
    let e = c.in-Some.entry in
    let t = popped steps own c.args.nodes.now w.0 c.loop-entry.way.items c.go_up.new.way.items e c.loop-entry.state w.1 c.in-Some.ensures.up (c.loop-entry.invariant.stands w.0 w.1 w.2) in
    let kid = entered_kid steps own c.args.nodes.now e t.0 c.loop-entry.state w.1 t.1 t.2 in
    let fork = node_is c.args.nodes.now e.node c.index-nodes-entry.result (Fork t.2.label t.2.kids) t.2.node c.index-nodes-entry.is in
    let left : c.go_up.new.state ≡ t.0 = c.in-Some.ensures.left t.0 t.2.label t.2.kid kid in
    let label : c.in-Fork.label ≡ t.2.label = label_is c.index-nodes-entry.result _ _ _ _ c.in-Fork.is fork in
    let kids : c.in-Fork.kids ≡ t.2.kids = kids_are c.index-nodes-entry.result _ _ _ _ c.in-Fork.is fork in
    (t.2.kids, rw (left, label) t.2.arity, rw (← kids) c.if-entry-kids.true)

pub returns-then-entry-kids-clause-lands : goal.returns-then-entry-kids-clause-lands
returns-then-entry-kids-clause-lands g c = λ root to_come h.
    let steps = g.S.Space.steps c.args.space.now in
    let own = g.S.Space.is_own c.args.space.now in
    let e = c.in-Some.entry in
    let t = popped steps own c.args.nodes.now root c.loop-entry.way.items c.go_up.new.way.items e c.loop-entry.state to_come c.in-Some.ensures.up (c.loop-entry.invariant.stands root to_come h) in
    let kid = entered_kid steps own c.args.nodes.now e t.0 c.loop-entry.state to_come t.1 t.2 in
    let fork = node_is c.args.nodes.now e.node c.index-nodes-entry.result (Fork t.2.label t.2.kids) t.2.node c.index-nodes-entry.is in
    let left : c.go_up.new.state ≡ t.0 = c.in-Some.ensures.left t.0 t.2.label t.2.kid kid in
    let label : c.in-Fork.label ≡ t.2.label = label_is c.index-nodes-entry.result _ _ _ _ c.in-Fork.is fork in
    let kids : c.in-Fork.kids ≡ t.2.kids = kids_are c.index-nodes-entry.result _ _ _ _ c.in-Fork.is fork in
    let state : c.enter.new.state ≡ (g.S.Space.steps c.args.space.now).kid t.0 t.2.label e.next = rw (← left, ← label) c.enter.ensures in
    pushed steps own c.args.nodes.now root c.go_up.new.way.items c.push_reserved.new.self.items _ c.enter.new.state true to_come c.push_reserved.ensures.items
    (rw state (to_kid steps own c.args.nodes.now root e _ _ c.loop-entry.state to_come t (rw (← kids) c.if-entry-kids.true) refl (omega arith)))

pub loop-entry-preserved : goal.loop-entry-preserved
loop-entry-preserved g c = record {
  stands = λ root to_come h.
      let steps = g.S.Space.steps c.args.space.now in
      let own = g.S.Space.is_own c.args.space.now in
      let e = c.in-Some.entry in
      let t = popped steps own c.args.nodes.now root c.loop-entry.way.items c.go_up.new.way.items e c.loop-entry.state to_come c.in-Some.ensures.up (c.loop-entry.invariant.stands root to_come h) in
      let kid = entered_kid steps own c.args.nodes.now e t.0 c.loop-entry.state to_come t.1 t.2 in
      let fork = node_is c.args.nodes.now e.node c.index-nodes-entry.result (Fork t.2.label t.2.kids) t.2.node c.index-nodes-entry.is in
      let left : c.go_up.new.state ≡ t.0 = c.in-Some.ensures.left t.0 t.2.label t.2.kid kid in
      let kids : c.in-Fork.kids ≡ t.2.kids = kids_are c.index-nodes-entry.result _ _ _ _ c.in-Fork.is fork in
      rw left (to_fork steps own c.args.nodes.now root e _ c.loop-entry.state to_come t (rw (← kids) c.if-entry-kids.false));
  places = places_up c.loop-entry.way.items c.go_up.new.way.items c.in-Some.entry (places_of c.args.way.now.items) c.in-Some.ensures.up c.loop-entry.invariant.places;
}

pub returns-then-entry-kids-clause-places : goal.returns-then-entry-kids-clause-places
returns-then-entry-kids-clause-places g c =
    places_back c.go_up.new.way.items c.push_reserved.new.self.items c.in-Some.entry _ (places_of c.args.way.now.items) c.push_reserved.ensures.items refl
    (places_last c.loop-entry.way.items c.go_up.new.way.items c.in-Some.entry (places_of c.args.way.now.items) c.in-Some.ensures.up c.loop-entry.invariant.places)

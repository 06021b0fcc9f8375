use Rattle.std.proofs.Common.{rules, ◌≡◌, ◌∷◌, [], sym, refl, Some, true, false, ◌∙◌, reverse, length}
use Rattle.tree_core.proofs.Lists.{slice_get-last}
use Rattle.tree_core.proofs.Walks.{stands_more}
use Rattle.tree_core.proofs.Moves.{at_next, at_end}
use Rattle.tree_search.proofs.growth.add_node.Goals as goal

pub go_on-requires-clause-stands : goal.go_on-requires-clause-stands
go_on-requires-clause-stands g c =
    let steps = g.S.Space.steps c.args.space.now in
    let own = g.S.Space.is_own c.args.space.now in
    let w = c.requires.at in
    (w.0, w.1.to_come, rw (c.as_slice.ensures.value, c.in_ok-push.ensures.items) (stands_more steps own c.args.nodes.now.items (c.args.node ∷ []) w.0 (reverse c.args.way.now.items) c.args.state.now w.1.to_come w.1.stands))

pub go_on-requires-clause-holds : goal.go_on-requires-clause-holds
go_on-requires-clause-holds g c = λ node get.
    let place : c.len-place.result ≡ length c.args.nodes.now.items = c.len-place.ensures ∙ (search rules) in
    let last : Some c.args.node ≡ Some node = sym (slice_get-last c.args.nodes.now.items c.args.node) ∙ (rw (c.as_slice.ensures.value, c.in_ok-push.ensures.items, place) at get) in
    let same : c.args.node ≡ node = cc in
    rw (← same) c.requires.holds

pub returns-clause-next : goal.returns-clause-next
returns-clause-next g c = λ e root at.
    let steps = g.S.Space.steps c.args.space.now in
    let own = g.S.Space.is_own c.args.space.now in
    let place : c.len-place.result ≡ length c.args.nodes.now.items = c.len-place.ensures ∙ (search rules) in
    let f = rw (e, c.as_slice.ensures.value, c.in_ok-push.ensures.items, place) at c.go_on.ensures.ok in
    let stands = stands_more steps own c.args.nodes.now.items (c.args.node ∷ []) root (reverse c.args.way.now.items) c.args.state.now at.to_come at.stands in
    let lands = f root at.to_come c.args.node stands (slice_get-last c.args.nodes.now.items c.args.node) in
    rw c.in_ok-push.ensures.items (at_next steps own c.args.nodes.now.items c.args.node root (reverse c.args.way.now.items) (reverse c.go_on.new.way.items) c.args.state.now c.go_on.new.state true refl at lands)

pub returns-clause-end : goal.returns-clause-end
returns-clause-end g c = λ e root at.
    let steps = g.S.Space.steps c.args.space.now in
    let own = g.S.Space.is_own c.args.space.now in
    let place : c.len-place.result ≡ length c.args.nodes.now.items = c.len-place.ensures ∙ (search rules) in
    let f = rw (e, c.as_slice.ensures.value, c.in_ok-push.ensures.items, place) at c.go_on.ensures.ok in
    let stands = stands_more steps own c.args.nodes.now.items (c.args.node ∷ []) root (reverse c.args.way.now.items) c.args.state.now at.to_come at.stands in
    let lands = f root at.to_come c.args.node stands (slice_get-last c.args.nodes.now.items c.args.node) in
    rw c.in_ok-push.ensures.items (at_end steps own c.args.nodes.now.items c.args.node root (reverse c.args.way.now.items) (reverse c.go_on.new.way.items) c.args.state.now c.go_on.new.state false refl at lands)

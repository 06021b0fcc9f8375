use Rattle.std.proofs.Common.{◌≡◌, ◌∙◌, ◌++◌, ◌∷◌, [], ℕ, suc, true, false, length, take, reverse, Some, sym, ap, subst, arith, length-append}
use Rattle.std.proofs.lemmas.List.{length-take}
use Rattle.std.proofs.lemmas.Option.{same_Some}
use Rattle.std.specs.Prelude.{slice_get}
use Rattle.std.specs.List.{range_with_len}
use Rattle.tree_core.specs.Checks.{NodeHolds}
use Rattle.tree_core.specs.Places.{after}
use Rattle.tree_core.specs.Walk.{places_of}
use Rattle.cert_stream.proofs.Forks.{stands_push, lands_cut, below-reverse, holds_more, get-last, places_are, few-places}
use Rattle.cert_stream.proofs.walk.visit.Goals as goal

pub go_on-requires-clause-stands : goal.go_on-requires-clause-stands
go_on-requires-clause-stands g c =
    let steps = g.S.Space.steps c.args.space.now in
    let own = g.S.Space.is_own c.args.space.now in
    let w = c.requires.stands in
    let forks : c.deref.result.now ≡ c.args.forks.now.items ++ c.args.node ∷ [] = c.deref.ensures.value ∙ c.in_ok-push.ensures.items in
    (w.0, w.1, rw forks (stands_push steps own c.args.forks.now.items w.0 (reverse c.args.way.now.items) c.args.node c.args.state.now w.1 w.2))

pub go_on-requires-clause-holds : goal.go_on-requires-clause-holds
go_on-requires-clause-holds g c node at =
    let steps = g.S.Space.steps c.args.space.now in
    let forks : c.deref.result.now ≡ c.args.forks.now.items ++ c.args.node ∷ [] = c.deref.ensures.value ∙ c.in_ok-push.ensures.items in
    let depth : c.len-depth.result ≡ length c.args.forks.now.items = c.len-depth.ensures ∙ c.args.forks.now.ok.0 in
    let is : slice_get c.deref.result.now c.len-depth.result ≡ Some c.args.node = rw (forks, depth) (get-last c.args.forks.now.items c.args.node) in
    let same : c.args.node ≡ node = same_Some c.args.node node (sym is ∙ at) in
    let holds : NodeHolds false steps c.args.state.now c.args.node = c.node_holds.ensures.0 (grind arith) in
    subst (NodeHolds true steps c.args.state.now) same (holds_more steps c.args.state.now c.args.node holds)

pub returns-clause-comes : goal.returns-clause-comes
returns-clause-comes g c _ root to_come stands =
    let steps = g.S.Space.steps c.args.space.now in
    let own = g.S.Space.is_own c.args.space.now in
    let forks : c.deref.result.now ≡ c.args.forks.now.items ++ c.args.node ∷ [] = c.deref.ensures.value ∙ c.in_ok-push.ensures.items in
    let depth : c.len-depth.result ≡ length c.args.forks.now.items = c.len-depth.ensures ∙ c.args.forks.now.ok.0 in
    let is : slice_get c.deref.result.now c.len-depth.result ≡ Some c.args.node = rw (forks, depth) (get-last c.args.forks.now.items c.args.node) in
    let pushed = stands_push steps own c.args.forks.now.items root (reverse c.args.way.now.items) c.args.node c.args.state.now to_come stands in
    let lands = c.in_ok-go_on.ensures.ok root to_come c.args.node (rw forks pushed) is in
    let way = c.go_on.new.way in
    let n : c.len.result ≡ length way.items = c.len.ensures ∙ way.ok.0 in
    let places : places_of way.items ≡ range_with_len 0 (length way.items) = places_are c.args.way.now.items way.items c.len-depth.result c.requires.stack.places (depth ∙ c.requires.stack.long) c.in_ok-go_on.ensures.places in
    let kept : c.truncate.new.self.items ≡ take (length way.items) c.deref.result.now = c.truncate.ensures.items ∙ ap (λ (i : ℕ). take i c.push.new.self.items) n ∙ ap (take (length way.items)) (sym c.deref.ensures.value) in
    (c.in_ok-go_on.field-0, rw kept (lands_cut steps own c.deref.result.now root (length way.items) (reverse way.items) c.go_on.new.state c.in_ok-go_on.field-0 (after steps (c.args.state.now ∷ to_come) c.args.node) (below-reverse (length way.items) way.items places) lands))

pub returns-clause-stack : goal.returns-clause-stack
returns-clause-stack g c _ =
    let depth : c.len-depth.result ≡ length c.args.forks.now.items = c.len-depth.ensures ∙ c.args.forks.now.ok.0 in
    let way = c.go_on.new.way in
    let n : c.len.result ≡ length way.items = c.len.ensures ∙ way.ok.0 in
    let few = few-places c.args.way.now.items way.items c.len-depth.result c.in_ok-go_on.ensures.places in
    let long : length c.push.new.self.items ≡ suc (length c.args.forks.now.items) = ap length c.in_ok-push.ensures.items ∙ (length-append c.args.forks.now.items (c.args.node ∷ []) ∙ omega arith) in
    record {
      long = ap length c.truncate.ensures.items ∙ length-take c.len.result c.push.new.self.items ∙ omega (arith, c.requires.stack.long);
      places = places_are c.args.way.now.items way.items c.len-depth.result c.requires.stack.places (depth ∙ c.requires.stack.long) c.in_ok-go_on.ensures.places;
    }

use Rattle.std.proofs.Common.{◌≡◌}
use Rattle.tree_core.proofs.Walks.{popped, entered_kid}
use Rattle.tree_core.proofs.walk.go_back.Goals as goal

pub go_up-requires : goal.go_up-requires
go_up-requires g c = λ e outer last.
    let steps = g.S.Space.steps c.args.space.now in
    let own = g.S.Space.is_own c.args.space.now in
    let w = c.requires.1 in
    let nodes = c.requires.0 in
    let i = c.loop-entry.invariant nodes w.0 w.1 w.2 in
    let t = popped steps own nodes w.0 c.loop-entry.way.items outer e c.loop-entry.state i.0 last i.1 in
    (t.0, t.2.label, t.2.kid, entered_kid steps own nodes e t.0 c.loop-entry.state i.0 t.1 t.2)

pub loop-entry-preserved : goal.loop-entry-preserved
loop-entry-preserved g c = λ nodes root to_come h.
    let steps = g.S.Space.steps c.args.space.now in
    let own = g.S.Space.is_own c.args.space.now in
    let i = c.loop-entry.invariant nodes root to_come h in
    let t = popped steps own nodes root c.loop-entry.way.items c.go_up.new.way.items c.in-Some._entry c.loop-entry.state i.0 c.in-Some.ensures.up i.1 in
    let kid = entered_kid steps own nodes c.in-Some._entry t.0 c.loop-entry.state i.0 t.1 t.2 in
    let left : c.go_up.new.state ≡ t.0 = c.in-Some.ensures.left t.0 t.2.label t.2.kid kid in
    (t.1, rw left t.3)

use Rattle.std.proofs.Common.{◌≡◌, ◌∷◌, ◌++◌, [], ℕ, List, Box, IfOk, subst}
use Rattle.std.specs.declared.alloc.Global.{Global}
use Rattle.tree_core.specs.declared.node.Node.{Node}
use Rattle.cert_stream.specs.declared.walk.Walk.{Walk}
use Rattle.cert_stream.specs.Walks.{IsOpenWalk, Follows}
use Rattle.cert_stream.proofs.walk.check_node.Goals as goal

pub returns-in-On-clause-on : goal.returns-in-On-clause-on
returns-in-On-clause-on g c walk e =
    let same : c.in-On.walk ≡ walk = cc (c.in-On.is, e) in
    subst (λ (w : Box (Walk g.row.S.Denot g.row.S-State.Denot g.row.S-Label.Denot g.row.S-Reason.Denot) Global). IfOk c.walk_on.result (λ after.
    (root : g.row.S-State.Denot) (nodes : List (Node g.row.S-Label.Denot g.row.S-Reason.Denot)) (wanted : ℕ)
    → IsOpenWalk (g.S.Space.steps w.value.space) (g.S.Space.is_own w.value.space) w.value root nodes wanted
    → Follows (g.S.Space.steps w.value.space) (g.S.Space.is_own w.value.space) w.value.space root c.args.part
    (nodes ++ c.args.node ∷ []) after))
    same c.walk_on.ensures

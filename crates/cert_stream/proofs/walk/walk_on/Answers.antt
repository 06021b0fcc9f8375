use Rattle.std.proofs.Common.{◌≡◌, ◌++◌, ◌∷◌, [], ℕ, true, false, Ok, length-append, sym, ap, subst, refl, arith}
use Rattle.tree_core.specs.Places.{IsFirstFault}
use Rattle.tree_core.proofs.Walks.{stands_own}
use Rattle.cert_stream.specs.declared.walk.Walk.{Walk}
use Rattle.cert_stream.specs.Walks.{IsOpenWalk, OpenAt, Stood}
use Rattle.cert_stream.proofs.Walked.{open_at, stood_next, fault_behind}
use Rattle.cert_stream.proofs.walk.walk_on.Goals as goal

pub visit-requires-clause-own : goal.visit-requires-clause-own
visit-requires-clause-own g c =
    let walk = c.deref_mut-here.result.now in
    let steps = g.S.Space.steps walk.space in
    let own = g.S.Space.is_own walk.space in
    let r = subst (OpenAt g.S.Space.steps g.S.Space.is_own) (sym c.deref_mut-here.ensures.value) c.requires in
    let at = open_at steps own r.0 r.1 walk.forks.items walk.way.items walk.state r.2 r.3.wants r.3.some r.3.stood in
    stands_own steps own c.laws.ensures.keeps_own walk.forks.items r.0 _ walk.state at.0 at.2

pub visit-requires-clause-stands : goal.visit-requires-clause-stands
visit-requires-clause-stands g c =
    let walk = c.deref_mut-here.result.now in
    let steps = g.S.Space.steps walk.space in
    let own = g.S.Space.is_own walk.space in
    let r = subst (OpenAt g.S.Space.steps g.S.Space.is_own) (sym c.deref_mut-here.ensures.value) c.requires in
    let at = open_at steps own r.0 r.1 walk.forks.items walk.way.items walk.state r.2 r.3.wants r.3.some r.3.stood in
    (r.0, at.0, at.2)

pub returns-then-not-branch : goal.returns-then-not-branch
returns-then-not-branch g c root nodes wanted before =
    let walk = c.deref_mut-here.result.now in
    let steps = g.S.Space.steps walk.space in
    let own = g.S.Space.is_own walk.space in
    let same = c.deref_mut-here.ensures.value in
    let walked = subst (λ (w : Walk g.row.S.Denot g.row.S-State.Denot g.row.S-Label.Denot g.row.S-Reason.Denot). IsOpenWalk (g.S.Space.steps w.space) (g.S.Space.is_own w.space) w root nodes wanted) (sym same) before in
    let at = open_at steps own root nodes walk.forks.items walk.way.items walk.state wanted walked.wants walked.some walked.stood in
    let fails : c.in_ok-visit.field-0 ≡ false = grind arith in
    let fault : IsFirstFault false steps root (nodes ++ c.args.node ∷ []) walk.seen =
    subst (λ (i : ℕ). IsFirstFault false steps root (nodes ++ c.args.node ∷ []) i) (sym walked.seen)
    (fault_behind steps root nodes c.args.node walk.state at.0 walked.stood.each at.1 (c.in_ok-visit.ensures.fails (ap Ok fails))) in
    (refl, subst (λ (w : Walk g.row.S.Denot g.row.S-State.Denot g.row.S-Label.Denot g.row.S-Reason.Denot). IsFirstFault false (g.S.Space.steps w.space) root (nodes ++ c.args.node ∷ []) walk.seen) same fault)

pub returns-in-Some : goal.returns-in-Some
returns-in-Some g c root nodes wanted before =
    let walk = c.deref_mut-here.result.now in
    let steps = g.S.Space.steps walk.space in
    let own = g.S.Space.is_own walk.space in
    let same = c.deref_mut-here.ensures.value in
    let walked = subst (λ (w : Walk g.row.S.Denot g.row.S-State.Denot g.row.S-Label.Denot g.row.S-Reason.Denot). IsOpenWalk (g.S.Space.steps w.space) (g.S.Space.is_own w.space) w root nodes wanted) (sym same) before in
    let at = open_at steps own root nodes walk.forks.items walk.way.items walk.state wanted walked.wants walked.some walked.stood in
    let held : c.in_ok-visit.field-0 ≡ true = grind arith in
    let stood : Stood steps own root (nodes ++ c.args.node ∷ []) c.visit.new.forks.items c.visit.new.way.items c.visit.new.state =
    stood_next steps own root nodes walk.forks.items c.visit.new.forks.items walk.way.items c.visit.new.way.items walk.state c.visit.new.state c.args.node at.0
    walked.stood at.1 (c.in_ok-visit.ensures.holds (ap Ok held)) (c.in_ok-visit.ensures.comes (ap Ok held) root at.0 at.2) (c.in_ok-visit.ensures.stack (ap Ok held)) in (
      ap (λ (w : Walk g.row.S.Denot g.row.S-State.Denot g.row.S-Label.Denot g.row.S-Reason.Denot). w.space) same,
      subst (λ (w : Walk g.row.S.Denot g.row.S-State.Denot g.row.S-Label.Denot g.row.S-Reason.Denot). Stood (g.S.Space.steps w.space) (g.S.Space.is_own w.space) root (nodes ++ c.args.node ∷ []) c.visit.new.forks.items c.visit.new.way.items c.visit.new.state) same stood,
      omega (arith, walked.seen, length-append nodes (c.args.node ∷ []), c.in-Some.ensures),
    )

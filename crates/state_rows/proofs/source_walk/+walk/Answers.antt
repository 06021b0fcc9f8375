use Rattle.std.proofs.Common.{sym, ap, ◌∙◌, arith}
use Rattle.tree_core.specs.Steps.{IsKid}
use Rattle.evade_space.specs.PartialMisassignment.{PartialMisassignment}
use Rattle.evade_space.specs.Steps.{evade_steps, IsEvadeState}
use Rattle.state_rows.proofs.source_walk.+walk.Goals as goal

pub step_more-requires-clause-own : goal.step_more-requires-clause-own
step_more-requires-clause-own t c =
    let sought = c.args.space.now in
    let u = c.next_image-label.result in
    let kid : IsKid (evade_steps sought) (IsEvadeState sought) c.args.state.now u c.loop-kid.kid c.enter.new.state = record {
      kids = c.in-Some.kids;
      is_own = c.requires.own;
      arity = sym c.arity.ensures ∙ c.in-Some.is;
      below = c.loop-kid-test.true;
      is_kid = c.enter.ensures ∙ ap (λ (s : PartialMisassignment). (evade_steps sought).kid s u c.loop-kid.kid) c.loop-kid.invariant;
    } in
    c.laws.ensures.keeps_own c.args.state.now u c.loop-kid.kid c.enter.new.state kid

pub walk-requires : goal.walk-requires
walk-requires t c =
    let sought = c.args.space.now in
    let u = c.next_image-label.result in
    let kid : IsKid (evade_steps sought) (IsEvadeState sought) c.args.state.now u c.loop-kid.kid c.enter.new.state = record {
      kids = c.in-Some.kids;
      is_own = c.requires.own;
      arity = sym c.arity.ensures ∙ c.in-Some.is;
      below = c.loop-kid-test.true;
      is_kid = c.enter.ensures ∙ ap (λ (s : PartialMisassignment). (evade_steps sought).kid s u c.loop-kid.kid) c.loop-kid.invariant;
    } in
    (omega (arith, c.decreases, c.if-levels-eq0.false), (c.laws.ensures.keeps_own c.args.state.now u c.loop-kid.kid c.enter.new.state kid, c.requires.style))

pub step_more-requires-in-loop-kid-clause-own : goal.step_more-requires-in-loop-kid-clause-own
step_more-requires-in-loop-kid-clause-own t c =
    let sought = c.args.space.now in
    let u = c.next_image-label.result in
    let kid : IsKid (evade_steps sought) (IsEvadeState sought) c.args.state.now u c.loop-kid.kid c.walk.new.state = record {
      kids = c.in-Some.kids;
      is_own = c.requires.own;
      arity = sym c.arity.ensures ∙ c.in-Some.is;
      below = c.loop-kid-test.true;
      is_kid = c.in_ok-walked-2.ensures ∙ (c.enter.ensures ∙ ap (λ (s : PartialMisassignment). (evade_steps sought).kid s u c.loop-kid.kid) c.loop-kid.invariant);
    } in
    rw (c.leave.ensures c.args.state.now u c.loop-kid.kid kid) c.requires.own

pub loop-kid-preserved : goal.loop-kid-preserved
loop-kid-preserved t c =
    let sought = c.args.space.now in
    let u = c.next_image-label.result in
    let kid : IsKid (evade_steps sought) (IsEvadeState sought) c.args.state.now u c.loop-kid.kid c.walk.new.state = record {
      kids = c.in-Some.kids;
      is_own = c.requires.own;
      arity = sym c.arity.ensures ∙ c.in-Some.is;
      below = c.loop-kid-test.true;
      is_kid = c.in_ok-walked-2.ensures ∙ (c.enter.ensures ∙ ap (λ (s : PartialMisassignment). (evade_steps sought).kid s u c.loop-kid.kid) c.loop-kid.invariant);
    } in
    c.leave.ensures c.args.state.now u c.loop-kid.kid kid

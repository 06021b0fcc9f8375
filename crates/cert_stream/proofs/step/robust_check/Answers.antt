use Rattle.std.proofs.Common.{ℕ, [], refl, sym, subst, arith}
use Rattle.evade_space.specs.declared.skipped.Skipped.{Skipped}
use Rattle.evade_space.specs.PartialMisassignment.{PartialMisassignment}
use Rattle.evade_space.specs.Sought.{Sought}
use Rattle.evade_space.specs.Steps.{evade_steps, IsEvadeState}
use Rattle.cert_stream.specs.declared.walk.Walk.{Walk}
use Rattle.cert_stream.specs.Walks.{IsOpenWalk}
use Rattle.cert_stream.proofs.Walked.{stood_start}
use Rattle.cert_stream.proofs.step.robust_check.Goals as goal

pub returns-clause-check : goal.returns-clause-check
returns-clause-check c =
    let space = c.in_ok-space.space in
    let state = c.in_ok-state.state in (
      state,
      [],
      subst (λ (w : Walk Sought PartialMisassignment ℕ Skipped). IsOpenWalk (evade_steps w.space) (IsEvadeState w.space) w state [] 1) (sym c.in_ok-walk.ensures.ok)
          (record {
            wants = refl;
            some = omega arith;
            stood = rw (c.new.ensures.items, c.new-2.ensures.items) (stood_start (evade_steps space) (IsEvadeState space) state c.in_ok-state.ensures.own);
            seen = refl;
          }),
    )

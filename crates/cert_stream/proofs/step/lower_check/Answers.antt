use Rattle.std.proofs.Common.{[], refl, sym, subst, arith}
use Rattle.close_rules.specs.declared.label.Label.{Label}
use Rattle.close_rules.specs.declared.reason.Reason.{Reason}
use Rattle.deck_space.specs.Steps.{deck_steps}
use Rattle.deck_space.specs.declared.decks.Decks.{Decks}
use Rattle.deck_state.specs.PartialDeck.{PartialDeck}
use Rattle.deck_state.specs.Trail.{IsPartial}
use Rattle.cert_stream.specs.declared.walk.Walk.{Walk}
use Rattle.cert_stream.specs.Walks.{IsOpenWalk}
use Rattle.cert_stream.proofs.Walked.{stood_start}
use Rattle.cert_stream.proofs.step.lower_check.Goals as goal

pub returns-in_ok-walk-in-Ok-clause-check : goal.returns-in_ok-walk-in-Ok-clause-check
returns-in_ok-walk-in-Ok-clause-check c =
    let state = c.in_ok-state-in-Ok.state in (
      state,
      [],
      subst (λ (w : Walk Decks PartialDeck Label Reason). IsOpenWalk deck_steps IsPartial w state [] 1) (sym c.in_ok-walk-in-Ok.ensures.ok)
          (record {
            wants = refl;
            some = omega arith;
            stood = rw (c.new-in-Ok.ensures.items, c.new-in-Ok-2.ensures.items) (stood_start deck_steps IsPartial state c.in_ok-state-in-Ok.ensures.partial);
            seen = refl;
          }),
    )

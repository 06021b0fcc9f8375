use Rattle.std.proofs.Common.{◌≡◌, ◌+◌, inl, inr, ℕ, List, Option, ap, sym, ◌∙◌, arith}
use Rattle.std.proofs.lemmas.Bool.{cases_eq}
use Rattle.lat_base.specs.Shape.{contest_of}
use Rattle.readings.proofs.Places.{contest_is, first_le}
use Rattle.evade_space.specs.Sources.{source_at, empty_places}
use Rattle.evade_space.proofs.state.EvadeState.recount_changed.Goals as goal

pub returns-else-is_open-clause-here : goal.returns-else-is_open-clause-here
returns-else-is_open-clause-here c = λ u le lt.
    let at : contest_of c.args.space.now.contests u ≡ c.args.c = contest_is c.args.space.now.contests c.args.c u (record { contest = c.requires.contest; from = le; to = lt }) in
    c.requires.beside u (omega (arith, lt, first_le c.args.space.now.contests (c.args.c + 1))) (λ e. c.if-c-own.false (sym at ∙ e))
    (elim (cases_eq (empty_places c.args.space.now.contests c.args.self.now.sources c.args.c) 0) [
      | inl full ↦ inl (ap (empty_places c.args.space.now.contests c.args.self.now.sources) at ∙ full)
      | inr some ↦ inr (ap (λ (xs : List (Option ℕ)). source_at xs u) (sym c.sources.ensures.sources)
          ∙ c.is_open.ensures c.if-is_open.false (omega (arith, some, ap (λ (xs : List (Option ℕ)). empty_places c.args.space.now.contests xs c.args.c) c.sources.ensures.sources)) u le lt)
    ])

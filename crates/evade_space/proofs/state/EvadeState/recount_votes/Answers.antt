use Rattle.std.proofs.Common.{◌≡◌, ◌+◌, ◌⊎◌, inl, inr, ℕ, None, List, Option, length, ap, subst, ◌∙◌, arith}
use Rattle.std.proofs.lemmas.Bool.{cases_lt}
use Rattle.lat_base.specs.Shape.{first_target, contest_of}
use Rattle.readings.proofs.Places.{is_of, first_mono}
use Rattle.evade_space.specs.Sources.{source_at, empty_places}
use Rattle.evade_space.specs.Counts.{counts_of}
use Rattle.evade_space.specs.Sought.{Sought}
use Rattle.evade_space.specs.Recounts.{HasVotes}
use Rattle.evade_space.proofs.SameVotes.{all_votes}
use Rattle.evade_space.proofs.state.EvadeState.recount_votes.Goals as goal

pub loop-c-preserved : goal.loop-c-preserved
loop-c-preserved c =
    let inv = c.loop-c.invariant in
    let now = c.recount_changed.ensures in
    let by_place : (w : ℕ) → HasVotes c.args.space.now c.loop-c.self w → HasVotes c.args.space.now c.recount_changed.new.self w =
    λ w has. elim (cases_lt w (first_target c.args.space.now.contests c.loop-c.c)) [
      | inl lt ↦ now.elsewhere w (inl lt) has
      | inr ge ↦ elim (cases_lt w (first_target c.args.space.now.contests (c.loop-c.c + 1))) [
        | inl lt ↦ now.here w ge lt
        | inr past ↦ now.elsewhere w (inr past) has
      ]
    ] in
    record {
      marks = now.marks;
      rest = record { sources = now.rest.sources ∙ inv.rest.sources; order = now.rest.order ∙ inv.rest.order };
      beside = λ w lw ne h.
          by_place w (inv.beside w lw ne (subst (λ (xs : List (Option ℕ)). (empty_places c.args.space.now.contests xs (contest_of c.args.space.now.contests w) ≡ 0) ⊎ (source_at xs w ≡ None)) now.rest.sources h));
      done = λ w lt. elim (cases_lt w (first_target c.args.space.now.contests c.loop-c.c)) [
        | inl less ↦ now.elsewhere w (inl less) (inv.done w less)
        | inr ge ↦ now.here w ge lt
      ];
    }

pub returns : goal.returns
returns c =
    let inv = c.loop-c.invariant in
    let count : c.contests-c-end.result ≡ length c.args.space.now.contests = c.contests-c-end.ensures.count ∙ ap (λ (x : Sought). length x.contests) c.space.view_is in
    let all = all_votes c.args.space.now c.loop-c.self inv.marks
    (λ w lw.
    let at = is_of c.args.space.now.contests w lw in
    let reach = first_mono c.args.space.now.contests (contest_of c.args.space.now.contests w + 1) c.loop-c.c (omega (arith, at.contest, count, c.loop-c-test.false)) (omega (arith, count, c.loop-c.auto.c-end)) in
    inv.done w (omega (arith, at.to, reach))) in
    let counts = all ∙ ap (λ (xs : List (Option ℕ)). counts_of c.args.space.now.contests c.args.space.now.deck xs) inv.rest.sources in
    λ i. record { sources = inv.rest.sources i; order = inv.rest.order i; counts = counts i }

use Rattle.std.proofs.Common.{◌≡◌, ◌<◌, ◌≤◌, ◌+◌, ◌⊎◌, inl, inr, ℕ, List, Option, ap, sym, subst, ◌∙◌, arith}
use Rattle.std.proofs.lemmas.Bool.{cases_eq}
use Rattle.lat_base.specs.Shape.{target_count, first_target}
use Rattle.readings.proofs.Places.{contest_is, first_mono}
use Rattle.evade_space.specs.Votes.{may_vote, must_vote}
use Rattle.evade_space.specs.Sought.{Sought}
use Rattle.evade_space.specs.Recounts.{HasVotes}
use Rattle.evade_space.proofs.VoteSteps.{marked_at, vote_step}
use Rattle.evade_space.proofs.state.EvadeState.recount_contest.Goals as goal

pub new-sets-requires-clause-marks : goal.new-sets-requires-clause-marks
new-sets-requires-clause-marks c = marked_at c.args.space.now c.args.self.now c.args.c c.requires.marks c.requires.contest

pub votes_for-votes-requires-clause-contest : goal.votes_for-votes-requires-clause-contest
votes_for-votes-requires-clause-contest c =
    let first : c.first_of-u.result ≡ first_target c.args.space.now.contests c.args.c = c.first_of-u.ensures.value ∙ ap (λ (x : Sought). first_target x.contests c.args.c) c.space.view_is in
    let last : c.first_of-u-end.result ≡ first_target c.args.space.now.contests (c.args.c + 1) = c.first_of-u-end.ensures.value ∙ ap (λ (x : Sought). first_target x.contests (c.args.c + 1)) c.space.view_is in
    sym (contest_is c.args.space.now.contests c.args.c c.loop-u.u (record { contest = c.requires.contest; from = omega (arith, first, c.loop-u.auto.u); to = omega (arith, last, c.loop-u-test.true) }))

pub loop-u-preserved : goal.loop-u-preserved
loop-u-preserved c =
    let first : c.first_of-u.result ≡ first_target c.args.space.now.contests c.args.c = c.first_of-u.ensures.value ∙ ap (λ (x : Sought). first_target x.contests c.args.c) c.space.view_is in
    let inside : c.loop-u.u < target_count c.args.space.now.contests = omega (arith, c.loop-u-test.true, c.first_of-u-end.ensures.within, ap (λ (x : Sought). target_count x.contests) c.space.view_is) in
    let inv = c.loop-u.invariant in
    let step = vote_step c.args.space.now c.loop-u.self c.keep_votes.new.self c.loop-u.u c.votes_for-votes.result.may c.votes_for-votes.result.must inv.marks inside c.votes_for-votes.ensures c.keep_votes.ensures in
    record {
      marks = step.marks;
      rest = record { sources = step.sources ∙ inv.rest.sources; order = step.order ∙ inv.rest.order };
      here = λ w le lt. elim (cases_eq w c.loop-u.u) [
        | inl same ↦ subst (λ (k : ℕ). HasVotes c.args.space.now c.keep_votes.new.self k) (sym same) step.here
        | inr ne ↦ step.other w ne (inv.here w le (omega (arith, lt, ne)))
      ];
      may = λ w out. elim out [
        | inl lt ↦ step.may w (λ e. omega (arith, e, lt, first, c.loop-u.auto.u)) ∙ inv.may w (inl lt)
        | inr ge ↦ step.may w (λ e. omega (arith, e, ge)) ∙ inv.may w (inr (omega (arith, ge)))
      ];
      must = λ w out. elim out [
        | inl lt ↦ step.must w (λ e. omega (arith, e, lt, first, c.loop-u.auto.u)) ∙ inv.must w (inl lt)
        | inr ge ↦ step.must w (λ e. omega (arith, e, ge)) ∙ inv.must w (inr (omega (arith, ge)))
      ];
    }

pub returns : goal.returns
returns c =
    let first : c.first_of-u.result ≡ first_target c.args.space.now.contests c.args.c = c.first_of-u.ensures.value ∙ ap (λ (x : Sought). first_target x.contests c.args.c) c.space.view_is in
    let last : c.first_of-u-end.result ≡ first_target c.args.space.now.contests (c.args.c + 1) = c.first_of-u-end.ensures.value ∙ ap (λ (x : Sought). first_target x.contests (c.args.c + 1)) c.space.view_is in
    let mono = first_mono c.args.space.now.contests c.args.c (c.args.c + 1) (omega arith) (omega (arith, c.requires.contest)) in
    let end : c.loop-u.u ≤ c.first_of-u-end.result = c.loop-u.auto.u-end (omega (arith, first, last, mono)) in
    let inv = c.loop-u.invariant in
    let where_is : (u : ℕ) → (u < first_target c.args.space.now.contests c.args.c) ⊎ (first_target c.args.space.now.contests (c.args.c + 1) ≤ u) → (u < first_target c.args.space.now.contests c.args.c) ⊎ (c.loop-u.u ≤ u) =
    λ u out. elim out [ inl lt ↦ inl lt | inr ge ↦ inr (omega (arith, ge, last, end)) ] in
    record {
      marks = inv.marks;
      rest = inv.rest;
      here = λ u le lt. inv.here u le (omega (arith, lt, last, c.loop-u-test.false));
      elsewhere = λ u out has. record {
        are_possible = inv.may u (where_is u out) ∙ has.are_possible ∙ ap (λ (xs : List (Option ℕ)). may_vote c.args.space.now.contests c.args.space.now.deck xs u) (sym inv.rest.sources);
        are_sure = inv.must u (where_is u out) ∙ has.are_sure ∙ ap (λ (xs : List (Option ℕ)). must_vote c.args.space.now.contests c.args.space.now.deck xs u) (sym inv.rest.sources);
      };
    }

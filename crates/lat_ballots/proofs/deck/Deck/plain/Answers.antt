use Rattle.std.proofs.Common.{◌+◌, arith, ◌∙◌, ap, length}
use Rattle.lat_base.specs.Shape.{target_count}
use Rattle.lat_ballots.specs.Deck.{Ballots}
use Rattle.lat_ballots.proofs.PlainDeck.{built_first, built_more, built_rows, plain_long}
use Rattle.lat_ballots.proofs.deck.Deck.plain.Goals as goal

-- src/plain.rt:44:9
pub loop-t-init : goal.loop-t-init
loop-t-init c =
    built_first (target_count c.args.shape.now) c.targets-targets.result c.over.result c.args.rules.now c.in_ok-rows.rows.items c.push_copies.new.rows.items c.first.result
    (omega (arith, c.targets-targets.ensures.shape.few_targets, c.targets-targets.ensures.count)) c.targets-targets.ensures.count c.first.ensures c.in_ok-rows.ensures.items c.over.ensures.value c.in_ok-push_copies.ensures

-- src/plain.rt:44:9
pub loop-t-preserved : goal.loop-t-preserved
loop-t-preserved c =
    built_more (target_count c.args.shape.now) c.args.rules.now c.loop-t.t (c.loop-t.t + 1 + c.saturating_sub-more.result) c.loop-t.rows.items c.push_copies-in-loop-t.new.rows.items c.only.result
    c.targets-targets.ensures.shape.few_targets (omega (arith, c.loop-t-test.true, c.targets-targets.ensures.count)) c.loop-t.invariant c.only.ensures
    (omega (arith, c.saturating_sub-more.ensures, c.least.ensures.value)) c.in_ok-push_copies-2.ensures

-- src/plain.rt:47:12
pub of_rows-requires : goal.of_rows-requires
of_rows-requires c =
    (built_rows (target_count c.args.shape.now) c.targets-targets.result c.loop-t.t c.blank-2.result c.args.rules.now c.loop-t.rows.items c.push_copies-2.new.rows.items c.blank.result
    c.targets-targets.ensures.shape.few_targets c.targets-targets.ensures.count (omega (arith, c.targets-targets.ensures.count, c.loop-t-test.false, c.loop-t.auto.t-end)) c.loop-t.invariant c.blank.ensures
    c.blank-2.ensures.value c.in_ok-push_copies-3.ensures c.requires).0

pub returns-clause-plain : goal.returns-clause-plain
returns-clause-plain c =
    c.of_rows.ensures ∙
    (built_rows (target_count c.args.shape.now) c.targets-targets.result c.loop-t.t c.blank-2.result c.args.rules.now c.loop-t.rows.items c.push_copies-2.new.rows.items c.blank.result
    c.targets-targets.ensures.shape.few_targets c.targets-targets.ensures.count (omega (arith, c.targets-targets.ensures.count, c.loop-t-test.false, c.loop-t.auto.t-end)) c.loop-t.invariant c.blank.ensures
    c.blank-2.ensures.value c.in_ok-push_copies-3.ensures c.requires).1

pub returns-clause-size : goal.returns-clause-size
returns-clause-size c =
    ap (λ (d : Ballots). length d.ballots)
    (c.of_rows.ensures ∙
    (built_rows (target_count c.args.shape.now) c.targets-targets.result c.loop-t.t c.blank-2.result c.args.rules.now c.loop-t.rows.items c.push_copies-2.new.rows.items c.blank.result
    c.targets-targets.ensures.shape.few_targets c.targets-targets.ensures.count (omega (arith, c.targets-targets.ensures.count, c.loop-t-test.false, c.loop-t.auto.t-end)) c.loop-t.invariant c.blank.ensures
    c.blank-2.ensures.value c.in_ok-push_copies-3.ensures c.requires).1)
    ∙ plain_long (target_count c.args.shape.now) c.args.rules.now

use Rattle.std.proofs.Common.{◌+◌, ℕ, Option, drop, sym, ap, ◌∙◌, arith}
use Rattle.std.specs.List.{position_from}
use Rattle.std.specs.Option.{option_or}
use Rattle.lat_base.specs.Shape.{first_target}
use Rattle.deck_text.specs.TargetNames.{is_called, target_names}
use Rattle.deck_text.proofs.Called.{contest_called, next_first}
use Rattle.deck_text.proofs.find.find_target.Goals as goal

pub returns-in-Some-clause-number : goal.returns-in-Some-clause-number
returns-in-Some-clause-number c =
    let names = c.args.names.now.contests in
    let next = next_first names c.args.shape.now c.loop-c.c c.requires (omega arith) in
    let rest = position_from (is_called c.args.contest.now c.args.target.now) (first_target c.args.shape.now (c.loop-c.c + 1)) (target_names (drop (c.loop-c.c + 1) names)) in
    ap (λ (o : Option ℕ). option_or o rest) c.in-Some.ensures.number
    ∙ sym (contest_called c.args.contest.now c.args.target.now names c.loop-c.c _ _ (omega arith) (sym next))
    ∙ c.loop-c.invariant

pub loop-c-preserved : goal.loop-c-preserved
loop-c-preserved c =
    let names = c.args.names.now.contests in
    let next = next_first names c.args.shape.now c.loop-c.c c.requires (omega arith) in
    let rest = position_from (is_called c.args.contest.now c.args.target.now) (first_target c.args.shape.now (c.loop-c.c + 1)) (target_names (drop (c.loop-c.c + 1) names)) in
    ap (λ (o : Option ℕ). option_or o rest) c.in_default.ensures.number
    ∙ sym (contest_called c.args.contest.now c.args.target.now names c.loop-c.c _ _ (omega arith) (sym next))
    ∙ c.loop-c.invariant

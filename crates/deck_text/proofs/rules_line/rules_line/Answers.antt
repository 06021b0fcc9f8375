use Rattle.std.proofs.Common.{◌≡◌, Option, Some, None, sym, ap, ◌∙◌}
use Rattle.lat_rules.specs.declared.broken.Broken.{Broken}
use Rattle.lat_rules.specs.Broken.{broken_rule}
use Rattle.deck_text.specs.VerifyText.{rules_text}
use Rattle.deck_text.proofs.rules_line.rules_line.Goals as goal

none_is : (o : Option Broken) → ((b : Broken) → o ≡ Some b → ⊥) → o ≡ None
none_is None h = cc
none_is (Some b) h = absurd (h b (cc))

pub returns-in_ok-text-in-Ok : goal.returns-in_ok-text-in-Ok
returns-in_ok-text-in-Ok c =
    let none = none_is (broken_rule c.args.shape.now c.args.rules.now c.args.deck.now.ballots) (λ b e. let is = (c.in-Ok.ensures.broken b).1 e in cc) in
    c.in_ok-text-in-Ok.ensures.items ∙ ap (rules_text c.args.names.now.contests) (sym none)

pub returns-in_ok-text-in-Err : goal.returns-in_ok-text-in-Err
returns-in_ok-text-in-Err c =
    let is : broken_rule c.args.shape.now c.args.rules.now c.args.deck.now.ballots ≡ Some c.in-Err.broken = (c.in-Err.ensures.broken c.in-Err.broken).0 (cc) in
    c.in_ok-text-in-Err.ensures ∙ ap (rules_text c.args.names.now.contests) (sym is)

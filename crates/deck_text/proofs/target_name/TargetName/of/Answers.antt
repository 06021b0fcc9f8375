use Rattle.std.proofs.Common.{ap, sym, ◌∙◌}
use Rattle.deck_text.specs.TargetNames.{FullName}
use Rattle.deck_text.proofs.Places.{name_of}
use Rattle.deck_text.proofs.target_name.TargetName.of.Goals as goal

pub returns-clause-contest : goal.returns-clause-contest
returns-clause-contest c =
    let place = c.contest_of-c.ensures.place in
    let name = name_of c.args.names.now.contests c.args.shape.now c.args.t c.contest_of-c.result c.first_of.result c.requires.fit c.contest_of-c.ensures.within c.first_of.ensures.value place.0 place.1 in
    c.as_bytes.ensures.bytes ∙ c.contest.ensures ∙ sym (ap (λ (n : FullName). n.contest) name)

pub returns-clause-target : goal.returns-clause-target
returns-clause-target c =
    let place = c.contest_of-c.ensures.place in
    let name = name_of c.args.names.now.contests c.args.shape.now c.args.t c.contest_of-c.result c.first_of.result c.requires.fit c.contest_of-c.ensures.within c.first_of.ensures.value place.0 place.1 in
    c.as_bytes-2.ensures.bytes ∙ c.target.ensures ∙ sym (ap (λ (n : FullName). n.target) name)

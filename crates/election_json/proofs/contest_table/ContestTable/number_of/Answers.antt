use Rattle.std.proofs.Common.{ap, ◌∙◌}
use Rattle.std.specs.Option.{option_map}
use Rattle.election_json.specs.Kept.{entry_at}
use Rattle.election_json.proofs.Chosen.{found_by_id}
use Rattle.election_json.proofs.contest_table.ContestTable.number_of.Goals as goal

pub returns-in-Some-clause-found : goal.returns-in-Some-clause-found
returns-in-Some-clause-found c =
    let entries = c.self.inside.entries.items in
    rw (← c.self.view_is) (ap (option_map (entry_at entries)) (c.in-Some.ensures ∙ rw c.self.invariant.0) ∙ found_by_id c.args.id.now entries)

pub returns-in-None-clause-found : goal.returns-in-None-clause-found
returns-in-None-clause-found c =
    let entries = c.self.inside.entries.items in
    rw (← c.self.view_is) (ap (option_map (entry_at entries)) (c.in-None.ensures ∙ rw c.self.invariant.0) ∙ found_by_id c.args.id.now entries)

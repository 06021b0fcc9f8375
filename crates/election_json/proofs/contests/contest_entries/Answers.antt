use Rattle.serde_json.specs.View.{view}
use Rattle.election_json.specs.Contests.{next_contest}
use Rattle.std.proofs.Common.{map, arith}
use Rattle.std.proofs.lemmas.List.{length-map}
use Rattle.election_json.proofs.Steps.{all_read}
use Rattle.election_json.proofs.ContestLimits.{contests_limits}
use Rattle.election_json.proofs.contests.contest_entries.Goals as goal

pub invariant_of-result : goal.invariant_of-result
invariant_of-result c =
    let read = all_read next_contest view c.loop-i.i c.loop-i.entries.items c.args.values.now (omega arith) c.loop-i.invariant.rest in
    (c.loop-i.invariant.known, contests_limits (map view c.args.values.now) c.loop-i.entries.items (rw length-map c.requires) read)

pub returns-clause-limits : goal.returns-clause-limits
returns-clause-limits c =
    let read = all_read next_contest view c.loop-i.i c.loop-i.entries.items c.args.values.now (omega arith) c.loop-i.invariant.rest in
    contests_limits (map view c.args.values.now) c.loop-i.entries.items (rw length-map c.requires) read

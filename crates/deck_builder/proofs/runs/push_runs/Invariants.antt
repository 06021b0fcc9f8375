use Rattle.std.proofs.Common.{◌≡◌, ◌+◌, ◌*◌, ◌≤◌}
use Rattle.lat_base.specs.Shape.{first_target}
use Rattle.deck_builder.specs.Pattern.{pattern, place}
use Rattle.deck_builder.specs.Runs.{runs_of}
use Rattle.deck_builder.proofs.runs.push_runs.Given as goal

abbrev pub invariant-loop-i : goal.invariant-loop-i
invariant-loop-i l =
    let p = pattern l.shape l.rules l.k l.turn in
    record {
      runs : l.runs.items ≡ runs_of p (first_target l.shape l.c + l.i);
      place : l.place ≡ place p l.c l.i;
      small : l.place ≤ 1024 + l.i * 1409;
    }

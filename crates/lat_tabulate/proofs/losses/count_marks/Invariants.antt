use Rattle.std.proofs.Common.{◌≡◌, ◌≤◌, ◌*◌, take}
use Rattle.lat_tabulate.specs.Lost.{mark_total}
use Rattle.lat_tabulate.proofs.losses.count_marks.Given as goal

abbrev pub invariant-loop-j : goal.invariant-loop-j
invariant-loop-j l = record {
  marks : l.marks ≡ mark_total (take l.j l.deck.ballots);
  small : l.marks ≤ 256 * l.j;
}

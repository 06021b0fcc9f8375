use Rattle.std.proofs.Common.{◌≡◌, ◌≤◌, count_by}
use Rattle.std.specs.Prelude.{slice_range}
use Rattle.lat_base.specs.Tally.{reading}
use Rattle.lat_ballots.specs.Deck.{ballot_at}
use Rattle.lat_tabulate.proofs.read.mark_count.Given as goal

abbrev pub invariant-loop-t : goal.invariant-loop-t
invariant-loop-t l = record {
  count : l.count ≡ count_by (λ mark. mark)
      (slice_range (reading (ballot_at l.deck l.j) l.sources) l.first l.t);
  small : l.count ≤ l.t;
}

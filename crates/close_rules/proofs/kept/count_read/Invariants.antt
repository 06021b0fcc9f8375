use Rattle.std.proofs.Common.{◌≡◌, ◌≤◌, count_by, map}
use Rattle.std.specs.Prelude.{slice_range}
use Rattle.lat_base.specs.Shape.{first_target}
use Rattle.lat_base.specs.Tally.{reading}
use Rattle.deck_state.specs.Mark.{is_marked}
use Rattle.close_rules.proofs.kept.count_read.Given as goal

-- the marks before here, as they are read
abbrev pub invariant-loop-u : goal.invariant-loop-u
invariant-loop-u l = record {
  count : l.count ≡ count_by (λ mark. mark)
      (slice_range (reading (map is_marked l.row) l.s) (first_target l.shape l.c) l.u);
  small : l.count ≤ l.u;
}

use Rattle.std.proofs.Common.{◌≡◌, ◌≤◌}
use Rattle.lat_top.specs.Asked.{kept_all}
use Rattle.lat_top.specs.Counted.{HoldsFirst}
use Rattle.lat_top.proofs.all.plan_styles.Given as goal

abbrev pub invariant-loop-i : goal.invariant-loop-i
invariant-loop-i g l =
    let files_of = g.H.Shelf.files in
    let faults_of = g.H.Shelf.faults in
    record {
      holds : HoldsFirst (kept_all l.asked) l.definition l.i l.county (files_of l.fn.shelf)
          (files_of l.shelf);
      counted : l.county.counts.styles ≡ l.i;
      faults : faults_of l.fn.shelf ≤ faults_of l.shelf;
    }

use Rattle.std.proofs.Common.{◌≡◌, ◌≤◌, ◌+◌, ◌-◌, ℕ, List, length}
use Rattle.lat_shelf.specs.Read.{ReadSoFar, TookIn}
use Rattle.lat_shelf.proofs.read.read_pieces.Given as goal

abbrev pub invariant-loop-taken : goal.invariant-loop-taken
invariant-loop-taken g l =
    let files_of = g.H.Shelf.files in
    let left_of = g.H.Shelf.left in
    let faults_of = g.H.Shelf.faults in
    let stands = g.P.Pieces.stands in
    record {
      files : files_of l.shelf ≡ files_of l.fn.shelf;
      faults : faults_of l.fn.shelf ≤ faults_of l.shelf;
      within : l.taken ≤ l.limit + 1;
      so_far : (bytes : List ℕ) × (length bytes ≡ l.taken)
          × ReadSoFar (files_of l.fn.shelf) l.name bytes (left_of l.shelf)
          × TookIn (stands l.fn.pieces) (stands l.pieces) bytes;
    }

abbrev pub decreases-loop-taken : goal.decreases-loop-taken
decreases-loop-taken g l = l.limit + 1 - l.taken

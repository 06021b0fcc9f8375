use Rattle.std.proofs.Common.{◌≡◌, ◌≤◌, ◌++◌, ◌∙◌, [], refl, sym, subst, ap, rules, arith, length, List, ℕ}
use Rattle.lat_shelf.specs.Read.{IsFile}
use Rattle.lat_shelf.proofs.read.read_whole.Goals as goal

pub returns-clause-whole : goal.returns-clause-whole
returns-clause-whole g c =
    let took = c.in_ok-read_pieces.ensures.whole in
    subst (IsFile (g.H.Shelf.files c.args.shelf.now) c.args.name.now)
    (sym (took.took.behind [] c.new-bytes.ensures.items)) took.is_file

pub returns-clause-within : goal.returns-clause-within
returns-clause-within g c =
    let took = c.in_ok-read_pieces.ensures.whole in
    let same = ap length (took.took.behind [] c.new-bytes.ensures.items) in
    omega (arith, same, took.few)

use Rattle.std.proofs.Common.{◌≡◌, ◌++◌, take}
use Rattle.lat_top.specs.Manifest.{manifest}
use Rattle.lat_top.specs.Writing.{entries}
use Rattle.lat_top.proofs.county.list_files.Given as goal

-- the lines of the files before this one are added
abbrev pub invariant-loop-put : goal.invariant-loop-put
invariant-loop-put l =
    l.lines.items ≡ l.fn.lines.items ++ manifest (entries (take l.put-index l.puts))

use Rattle.std.proofs.Common.{◌≡◌, ◌+◌, ◌++◌, rules, arith, take, length, length-append}
use Rattle.std.proofs.lemmas.List.{length-take-le, take-append-le}
use Rattle.lat_shelf.proofs.Reading.{file_more, took_more}
use Rattle.lat_shelf.proofs.read.read_pieces.Goals as goal

pub loop-taken-preserved : goal.loop-taken-preserved
loop-taken-preserved g c =
    let so_far = c.loop-taken.invariant.so_far in
    let took = c.in-Ok-take.ensures in
    let n = c.in-Ok-take.n in
    let piece = take n c.take.new.buf in
    let long = length-take-le n c.take.new.buf took.within in
    record {
      files = search rules;
      faults = search rules;
      within = search rules;
      so_far = (
        so_far.0 ++ piece,
        omega (arith, length-append so_far.0 piece, so_far.1, long),
        file_more _ _ so_far.0 _ _ c.take.new.buf n so_far.2 took.takes,
        took_more _ _ _ so_far.0 _ _ (take-append-le n c.take.new.buf _ took.within) so_far.3
            c.in-Ok-take_in.ensures,
      );
    }

use Rattle.std.proofs.Common.{sym, ◌∙◌, false, arith}
use Rattle.std.proofs.lemmas.List.{ext_get_or}
use Rattle.lat_ballots.specs.Row.{bits_of}
use Rattle.lat_ballots.proofs.OneBit.{length-bits_of}
use Rattle.lat_ballots.proofs.words.to_array.Goals as goal

pub returns : goal.returns
returns c =
    ext_get_or false c.loop-t.bits (bits_of c.args.words.now) (c.loop-t.invariant.0 ∙ sym (length-bits_of c.args.words.now))
    (λ i lt. c.loop-t.invariant.1 i (omega (arith, lt, c.loop-t.invariant.0, c.loop-t-test.false, c.loop-t.auto.t-end)))

use Rattle.std.proofs.Common.{◌≡◌, ◌++◌, flat_map, take}
use Rattle.cert_fields.specs.Spelling.{u16_text}
use Rattle.cert_fields.proofs.lists.append_numbers.Given as goal

abbrev pub invariant-loop-number : goal.invariant-loop-number
invariant-loop-number l = l.out.items ≡ l.fn.out.items ++ flat_map u16_text (take l.number-index l.numbers)

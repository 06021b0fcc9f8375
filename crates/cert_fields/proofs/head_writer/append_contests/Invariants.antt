use Rattle.std.proofs.Common.{◌≡◌, ◌++◌, take}
use Rattle.cert_fields.specs.Head.{contests_text, AreNamed}
use Rattle.cert_fields.proofs.head_writer.append_contests.Given as goal

abbrev pub invariant-loop-c : goal.invariant-loop-c
invariant-loop-c l = record {
  text : l.out.items ≡ l.fn.out.items ++ contests_text (take l.c l.names) (take l.c l.shape);
  spelled : AreNamed (take l.c l.names) (take l.c l.shape);
}

use Rattle.std.proofs.Common.{◌≡◌, ◌++◌, take, All, flat_map}
use Rattle.cert_fields.specs.Spelling.{id_text, IsText}
use Rattle.cert_fields.proofs.head_writer.append_ids.Given as goal

abbrev pub invariant-loop-id : goal.invariant-loop-id
invariant-loop-id l = record {
  text : l.out.items ≡ l.fn.out.items ++ flat_map id_text (take l.id-index l.ids);
  spelled : All IsText (take l.id-index l.ids);
}

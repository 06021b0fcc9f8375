use Rattle.std.proofs.Common.{take}
use Rattle.cert_fields.proofs.Loop.{kept_more}
use Rattle.cert_fields.specs.Rows.{rows_text}
use Rattle.cert_fields.proofs.row_writer.append_rows.Goals as goal

pub returns-in_err-put_row-clause-kept : goal.returns-in_err-put_row-clause-kept
returns-in_err-put_row-clause-kept c =
    kept_more c.args.out.now.items (rows_text (take c.loop-j.j c.args.deck.now.ballots)) c.loop-j.out.items c.put_row.new.out.items c.loop-j.invariant c.put_row.ensures.kept

use Rattle.std.proofs.Common.{refl}
use Rattle.cert_fields.proofs.Contests.{rules_none}
use Rattle.cert_fields.proofs.head_reader.rules_of.Goals as goal

pub returns-in-Err : goal.returns-in-Err
returns-in-Err c =
    rules_none c.args.bytes.now c.in_ok-flag.flag c.in_ok-flag.rest.now c.in_ok-least.least c.in_ok-least.rest.now (c.in_ok-blank.blank, c.in_ok-blank.over) c.in_ok-blank.rest.now _ c.in-Err.field-0
    c.in_ok-flag.ensures.read c.if-flag-gt1.false c.in_ok-least.ensures.read c.in_ok-blank.ensures.read refl ((c.in-Err.ensures.fault c.in-Err.field-0).0 refl)

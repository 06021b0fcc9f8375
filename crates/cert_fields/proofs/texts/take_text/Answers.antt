use Rattle.std.proofs.Common.{ℕ, List}
use Rattle.std.specs.Borrow.{Bor}
use Rattle.cert_fields.specs.Spelling.{IsText, id_text}
use Rattle.cert_fields.specs.Reading.{id_at}
use Rattle.cert_fields.proofs.Exact.{begins, begins_err, id_exact}
use Rattle.cert_fields.proofs.texts.take_text.Goals as goal

pub returns-in-Ok : goal.returns-in-Ok
returns-in-Ok c = begins id_exact c.args.bytes.now c.in-Ok.id c.in-Ok.rest.now c.in-Ok.ensures

pub returns-in-Err : goal.returns-in-Err
returns-in-Err c = begins_err (λ (x : List ℕ × Bor (List ℕ)). (x.0, x.1.now)) id_at IsText id_text id_exact c.args.bytes.now c.in-Err.fault c.in-Err.ensures

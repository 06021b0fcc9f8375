use Rattle.std.proofs.Common.{ℕ, List}
use Rattle.std.specs.Borrow.{Bor}
use Rattle.close_rules.specs.declared.reason.Reason.{Reason}
use Rattle.cert_fields.proofs.Exact.{begins, begins_err, no_longer}
use Rattle.cert_fields.specs.Trees.{IsReason, reason_text}
use Rattle.cert_fields.specs.TreeReading.{reason_at}
use Rattle.cert_fields.proofs.Fields.{reason_exact}
use Rattle.cert_fields.proofs.reasons.take_reason.Goals as goal

pub returns-in-Ok : goal.returns-in-Ok
returns-in-Ok c = begins reason_exact c.args.bytes.now c.in-Ok.reason c.in-Ok.rest.now c.in-Ok.ensures

pub returns-in-Err : goal.returns-in-Err
returns-in-Err c = begins_err (λ (x : Reason × Bor (List ℕ)). (x.0, x.1.now)) reason_at IsReason reason_text reason_exact c.args.bytes.now c.in-Err.fault c.in-Err.ensures

pub overflow_sub-result : goal.overflow_sub-result
overflow_sub-result c = no_longer reason_exact c.args.bytes.now c.in-Ok.reason c.in-Ok.rest.now c.in-Ok.ensures

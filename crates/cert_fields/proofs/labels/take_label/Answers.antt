use Rattle.std.proofs.Common.{ℕ, List}
use Rattle.std.specs.Borrow.{Bor}
use Rattle.close_rules.specs.declared.label.Label.{Label}
use Rattle.cert_fields.proofs.Exact.{begins, begins_none, no_longer}
use Rattle.cert_fields.proofs.Loop.{only_fault}
use Rattle.cert_fields.specs.TreeReading.{label_at}
use Rattle.cert_fields.proofs.Fields.{label_exact}
use Rattle.cert_fields.proofs.labels.take_label.Goals as goal

pub returns-in-Ok : goal.returns-in-Ok
returns-in-Ok c = begins label_exact c.args.bytes.now c.in-Ok.label c.in-Ok.rest.now c.in-Ok.ensures.read

pub overflow_sub-result : goal.overflow_sub-result
overflow_sub-result c = no_longer label_exact c.args.bytes.now c.in-Ok.label c.in-Ok.rest.now c.in-Ok.ensures.read

pub returns-in-Err : goal.returns-in-Err
returns-in-Err c = begins_none label_exact c.args.bytes.now (only_fault (λ (x : Label × Bor (List ℕ)). (x.0, x.1.now)) c.in-Err.field-0 (label_at c.args.bytes.now) c.in-Err.ensures.read c.in-Err.ensures.no_memory)

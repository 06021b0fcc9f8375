use Rattle.std.proofs.Common.{sym, subst, Result}
use Rattle.serde_json.specs.View.{view}
use Rattle.election_json.specs.declared.fault.DefFault.{DefFault}
use Rattle.election_json.specs.Fault.{Gives}
use Rattle.election_json.specs.Definition.{DefinitionValue}
use Rattle.election_json.proofs.Text.{of_text, of_other}
use Rattle.election_json.proofs.reading.read.Goals as goal

pub returns-in-Ok-clause-gives : goal.returns-in-Ok-clause-gives
returns-in-Ok-clause-gives c =
    subst (λ (r : Result DefinitionValue DefFault). Gives (λ d. d) c.definition_in.result r) (sym (of_text c.args.bytes.now (view c.in-Ok.value) c.in-Ok.ensures.ok.0 c.in-Ok.ensures.ok.1)) c.definition_in.ensures.gives

pub returns-else-is_memory-clause-gives : goal.returns-else-is_memory-clause-gives
returns-else-is_memory-clause-gives c = of_other c.args.bytes.now (c.in-Err.ensures.err (λ e. cc (c.is_memory.ensures.1 e, c.if-is_memory.false)))

use Rattle.std.proofs.Common.{◌≡◌, ap, Ok, Some, ◌∙◌}
use Rattle.tree_core.proofs.Holding.{fault_refutes}
use Rattle.tree_core.proofs.check.check_with.Goals as goal

pub returns-in-Some-clause-checks : goal.returns-in-Some-clause-checks
returns-in-Some-clause-checks g c =
    let found : c.first_fault-fault.result ≡ Ok (Some c.in-Some.i) = c.in_ok-fault.was ∙ ap Ok c.in-Some.is in
    let fault = c.first_fault-fault.ensures.fault c.in-Some.i found in
    (λ e. absurd (cc), λ h. absurd (fault_refutes (g.S.Space.steps c.args.space.now) c.args.open_holds c.args.state.now c.args.nodes.now c.in-Some.i c.requires.tree fault h))

pub returns-in-Some-clause-fails : goal.returns-in-Some-clause-fails
returns-in-Some-clause-fails g c = λ i e.
    let same : c.in-Some.i ≡ i = cc in
    c.first_fault-fault.ensures.fault i (c.in_ok-fault.was ∙ ap Ok (c.in-Some.is ∙ ap Some same))

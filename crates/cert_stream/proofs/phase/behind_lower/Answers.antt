use Rattle.std.proofs.Common.{◌≡◌, ◌∙◌, ℕ, List, Some, ap, sym, subst, arith}
use Rattle.std.specs.Prelude.{Option}
use Rattle.close_rules.specs.declared.label.Label.{Label}
use Rattle.close_rules.specs.declared.reason.Reason.{Reason}
use Rattle.tree_core.specs.declared.node.Node.{Node}
use Rattle.cert_fields.specs.TreeReading.{wanted_after}
use Rattle.cert_types.specs.declared.part.Part.{Part}
use Rattle.cert_types.specs.LowerPart.{LowerPart}
use Rattle.cert_check.specs.Answers.{ArePartsAnswer}
use Rattle.cert_stream.specs.Left.{deck_node_at, end_left}
use Rattle.cert_stream.specs.Phases.{head_of}
use Rattle.cert_stream.specs.Stands.{lower_of}
use Rattle.cert_stream.proofs.Nodes.{deck_node_shorter, tree_done}
use Rattle.cert_stream.proofs.Trees.{lower_ends}
use Rattle.cert_stream.proofs.phase.behind_lower.Goals as goal

pub returns-clause-stands : goal.returns-clause-stands
returns-clause-stands c proved chosen size nodes held all best is few wants so_far reads =
    let front = c.args.front in
    let zero : c.args.wanted ≡ 0 = omega arith in
    let done : wanted_after 1 nodes ≡ Some 0 = wants ∙ ap Some zero in
    let lower : LowerPart = lower_of chosen size nodes in
    let answer : ArePartsAnswer front.shape front.rules proved (Some lower) c.fault_of-fault.result =
    subst (λ (fault : Option (Part × ℕ)). ArePartsAnswer front.shape front.rules proved (Some lower) fault) (sym c.fault_of-fault.ensures) (lower_ends front.shape front.rules proved chosen size nodes c.args.check is few done so_far) in
    let next = λ (ns : List (Node Label Reason)) (bytes : List ℕ). end_left (head_of front) front.verdict proved (Some (lower_of chosen size ns)) bytes in
    (proved, Some lower, best, answer, tree_done deck_node_at deck_node_shorter next all held nodes c.args.wanted zero reads)

use Rattle.std.proofs.Common.{◌≡◌, ◌∙◌, ℕ, List, Some, ap, sym, subst, arith}
use Rattle.std.specs.Prelude.{Option}
use Rattle.evade_space.specs.declared.skipped.Skipped.{Skipped}
use Rattle.tree_core.specs.declared.node.Node.{Node}
use Rattle.cert_fields.specs.TreeReading.{wanted_after}
use Rattle.cert_types.specs.declared.part.Part.{Part}
use Rattle.cert_types.specs.declared.proved.Proved.{Proved}
use Rattle.cert_types.specs.Fitting.{lower_size}
use Rattle.cert_check.specs.Answers.{IsDeckAnswer}
use Rattle.cert_stream.specs.Left.{evade_node_at, lower_part_left}
use Rattle.cert_stream.specs.Phases.{head_of}
use Rattle.cert_stream.proofs.Nodes.{evade_node_shorter, tree_done}
use Rattle.cert_stream.proofs.Trees.{robust_ends}
use Rattle.cert_stream.proofs.phase.behind_robust.Goals as goal

pub returns-clause-stands : goal.returns-clause-stands
returns-clause-stands c deck nodes held all targets best wants so_far reads =
    let front = c.args.front in
    let zero : c.args.wanted ≡ 0 = omega arith in
    let done : wanted_after 1 nodes ≡ Some 0 = wants ∙ ap Some zero in
    let proved : Proved = record { deck = deck; robust = nodes } in
    let answer : IsDeckAnswer front.shape front.rules (Some proved) c.fault_of-fault.result =
    subst (λ (fault : Option (Part × ℕ)). IsDeckAnswer front.shape front.rules (Some proved) fault) (sym c.fault_of-fault.ensures) (robust_ends front.shape front.rules deck nodes c.args.check targets done so_far) in
    let next = λ (ns : List (Node ℕ Skipped)) (bytes : List ℕ). lower_part_left (head_of front) front.verdict (Some (record { deck = deck; robust = ns })) (lower_size front.verdict) bytes in
    c.behind_deck.ensures.stands (Some proved) held all best answer (tree_done evade_node_at evade_node_shorter next all held nodes c.args.wanted zero reads)

use Rattle.std.proofs.Common.{◌≡◌, ◌∙◌, ◌++◌, ◌∷◌, [], ℕ, List, Some, None, ap, sym, arith}
use Rattle.std.specs.Borrow.{Bor}
use Rattle.std.specs.Prelude.{Option}
use Rattle.std.proofs.lemmas.Result.{err_from_is_err_and}
use Rattle.evade_space.specs.declared.skipped.Skipped.{Skipped}
use Rattle.tree_core.specs.declared.node.Node.{Node}
use Rattle.cert_fields.specs.declared.fault.CertFault.TheVariants.{NotACertificate}
use Rattle.cert_fields.specs.TreeReading.{wanted_after}
use Rattle.cert_fields.proofs.Contests.{given_none}
use Rattle.cert_types.specs.declared.part.Part.TheVariants as parts
use Rattle.cert_types.specs.Fitting.{lower_size}
use Rattle.lat_ballots.specs.Deck.{Ballots}
use Rattle.cert_stream.specs.declared.front.Front.{Front}
use Rattle.cert_stream.specs.Left.{Parts, evade_node_at, lower_part_left}
use Rattle.cert_stream.specs.Phases.{head_of}
use Rattle.cert_stream.proofs.Nodes.{evade_node, evade_node_shorter, tree_on, tree_stops, wanted_more}
use Rattle.cert_stream.proofs.Trees.{evade_walk, evade_check_next, robust_next}
use Rattle.cert_stream.proofs.step.read_robust.Goals as goal

abbrev view : Node ℕ Skipped × Bor (List ℕ) → Node ℕ Skipped × List ℕ
view x = (x.0, x.1.now)

abbrev next : Front → Ballots → List (Node ℕ Skipped) → List ℕ → Option Parts
next front deck nodes bytes = lower_part_left (head_of front) front.verdict (Some (record { deck = deck; robust = nodes })) (lower_size front.verdict) bytes

pub check_node-requires : goal.check_node-requires
check_node-requires c = evade_walk c.args.check c.args.wanted c.requires.2

pub behind_robust-requires-clause-check : goal.behind_robust-requires-clause-check
behind_robust-requires-clause-check c some =
    evade_check_next parts.Robust c.args.check c.in_ok-check.check c.in_ok-node.node c.args.wanted c.in_ok-after.after
    c.in_ok-check.ensures.on c.in_ok-check.ensures.off c.in_ok-after.ensures some c.requires.2

pub returns-in_err-node-clause-refused : goal.returns-in_err-node-clause-refused
returns-in_err-node-clause-refused c h all stands =
    let p = err_from_is_err_and c.from_residual.result c.from_residual.ensures.1 in
    let e : c.in_err-node.field-0.0 ≡ NotACertificate = cc in
    let held = c.args.bytes.now in
    let none : evade_node_at held ≡ None = given_none view c.in_err-node.field-0.0 (evade_node_at held) c.in_err-node.ensures e in
    tree_stops evade_node_at evade_node_shorter (next c.args.front stands.0) evade_node all held stands.1 c.args.wanted c.requires.1 none stands.6

pub returns-clause-moves : goal.returns-clause-moves
returns-clause-moves c all stands =
    let front = c.args.front in
    let node = c.in_ok-node.node in
    let rest = c.in_ok-node.rest.now in
    let wanted = c.args.wanted in
    let later = c.in_ok-after.after in
    let wants : wanted_after 1 (stands.1 ++ node ∷ []) ≡ Some later = wanted_more stands.1 1 wanted node stands.4 c.requires.1 ∙ ap Some (sym c.in_ok-after.ensures) in
    c.behind_robust.ensures.stands stands.0 (stands.1 ++ node ∷ []) rest all stands.2 stands.3 wants
    (robust_next front.shape front.rules stands.0 stands.1 c.args.check c.in_ok-check.check node wanted c.in_ok-check.ensures.on c.in_ok-check.ensures.off stands.4 c.requires.1 stands.5)
    (tree_on evade_node_at evade_node_shorter (next front stands.0) evade_node all c.args.bytes.now rest stands.1 wanted later node c.requires.1 c.in_ok-node.ensures c.in_ok-after.ensures stands.6)

pub returns-clause-tail : goal.returns-clause-tail
returns-clause-tail c = let t = evade_node.tail c.args.bytes.now c.in_ok-node.node c.in_ok-node.rest.now c.in_ok-node.ensures in (t.0, t.1)

pub returns-clause-shorter : goal.returns-clause-shorter
returns-clause-shorter c = omega (arith, evade_node_shorter c.args.bytes.now c.in_ok-node.node c.in_ok-node.rest.now c.in_ok-node.ensures, c.behind_robust.ensures.rank)

use Rattle.std.proofs.Common.{◌≡◌, ◌∙◌, ◌++◌, ◌∷◌, [], ℕ, List, Some, None, ap, sym, arith}
use Rattle.std.specs.Borrow.{Bor}
use Rattle.std.specs.Prelude.{Option}
use Rattle.std.proofs.lemmas.Result.{err_from_is_err_and}
use Rattle.close_rules.specs.declared.label.Label.{Label}
use Rattle.close_rules.specs.declared.reason.Reason.{Reason}
use Rattle.tree_core.specs.declared.node.Node.{Node}
use Rattle.cert_fields.specs.declared.fault.CertFault.TheVariants.{NotACertificate}
use Rattle.cert_fields.specs.TreeReading.{wanted_after}
use Rattle.cert_fields.proofs.Contests.{given_none}
use Rattle.cert_types.specs.declared.part.Part.TheVariants as parts
use Rattle.cert_types.specs.declared.proved.Proved.{Proved}
use Rattle.cert_stream.specs.declared.front.Front.{Front}
use Rattle.cert_stream.specs.Left.{Parts, deck_node_at, end_left}
use Rattle.cert_stream.specs.Phases.{head_of}
use Rattle.cert_stream.specs.Stands.{lower_of}
use Rattle.cert_stream.proofs.Nodes.{deck_node, deck_node_shorter, tree_on, tree_stops, wanted_more}
use Rattle.cert_stream.proofs.Trees.{deck_walk, deck_check_next, lower_next}
use Rattle.cert_stream.proofs.step.read_lower.Goals as goal

abbrev view : Node Label Reason × Bor (List ℕ) → Node Label Reason × List ℕ
view x = (x.0, x.1.now)

abbrev next : Front → Option Proved → List ℕ → ℕ → List (Node Label Reason) → List ℕ → Option Parts
next front proved chosen size nodes bytes = end_left (head_of front) front.verdict proved (Some (lower_of chosen size nodes)) bytes

pub check_node-requires : goal.check_node-requires
check_node-requires c = deck_walk c.args.check c.args.wanted c.requires.1

pub behind_lower-requires : goal.behind_lower-requires
behind_lower-requires c some =
    deck_check_next parts.Lower c.args.check c.in_ok-check.check c.in_ok-node.node c.args.wanted c.in_ok-after.after
    c.in_ok-check.ensures.on c.in_ok-check.ensures.off c.in_ok-after.ensures some c.requires.1

pub returns-in_err-node-clause-refused : goal.returns-in_err-node-clause-refused
returns-in_err-node-clause-refused c h all stands =
    let p = err_from_is_err_and c.from_residual.result c.from_residual.ensures.1 in
    let e : c.in_err-node.field-0.0 ≡ NotACertificate = cc in
    let held = c.args.bytes.now in
    let none : deck_node_at held ≡ None = given_none view c.in_err-node.field-0.0 (deck_node_at held) c.in_err-node.ensures e in
    tree_stops deck_node_at deck_node_shorter (next c.args.front stands.0 stands.1 stands.2) deck_node all held stands.3 c.args.wanted c.requires.0 none stands.9

pub returns-clause-moves : goal.returns-clause-moves
returns-clause-moves c all stands =
    let front = c.args.front in
    let node = c.in_ok-node.node in
    let rest = c.in_ok-node.rest.now in
    let wanted = c.args.wanted in
    let later = c.in_ok-after.after in
    let wants : wanted_after 1 (stands.3 ++ node ∷ []) ≡ Some later = wanted_more stands.3 1 wanted node stands.7 c.requires.0 ∙ ap Some (sym c.in_ok-after.ensures) in
    c.behind_lower.ensures.stands stands.0 stands.1 stands.2 (stands.3 ++ node ∷ []) rest all stands.4 stands.5 stands.6 wants
    (lower_next front.shape front.rules stands.0 stands.1 stands.2 stands.3 c.args.check c.in_ok-check.check node wanted c.in_ok-check.ensures.on c.in_ok-check.ensures.off stands.7 c.requires.0 stands.8)
    (tree_on deck_node_at deck_node_shorter (next front stands.0 stands.1 stands.2) deck_node all c.args.bytes.now rest stands.3 wanted later node c.requires.0 c.in_ok-node.ensures c.in_ok-after.ensures stands.9)

pub returns-clause-tail : goal.returns-clause-tail
returns-clause-tail c = let t = deck_node.tail c.args.bytes.now c.in_ok-node.node c.in_ok-node.rest.now c.in_ok-node.ensures in (t.0, t.1)

pub returns-clause-shorter : goal.returns-clause-shorter
returns-clause-shorter c = omega (arith, deck_node_shorter c.args.bytes.now c.in_ok-node.node c.in_ok-node.rest.now c.in_ok-node.ensures, c.behind_lower.ensures.rank)

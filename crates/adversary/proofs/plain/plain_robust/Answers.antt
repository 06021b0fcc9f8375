use Rattle.std.proofs.Common.{◌≡◌, ◌++◌, ◌∙◌, ℕ, List, [], ◌∷◌, length, map, take, ap, sym, arith}
use Rattle.std.specs.List.{range_with_len}
use Rattle.lat_base.specs.Shape.{target_count}
use Rattle.lemmas.proofs.Ranges.{made_more}
use Rattle.tree_core.specs.declared.node.Node.{Node}
use Rattle.tree_core.specs.declared.node.Node.TheVariants.{Close, Fork}
use Rattle.evade_space.specs.declared.skipped.Skipped.{Skipped}
use Rattle.evade_space.proofs.PlainTree.{plain_tree}
use Rattle.adversary.proofs.PlainRobust.{fork_on, plain_nodes, nodes_long, nodes_rise, plain_is_robust}
use Rattle.adversary.proofs.plain.plain_robust.Goals as goal

pub returns-in_err-nodes-clause-robust : goal.returns-in_err-nodes-clause-robust
returns-in_err-nodes-clause-robust c = plain_is_robust c.args.shape.now c.args.rules.now c.targets-targets.ensures.shape c.requires

pub returns-in_err-push-clause-robust : goal.returns-in_err-push-clause-robust
returns-in_err-push-clause-robust c = plain_is_robust c.args.shape.now c.args.rules.now c.targets-targets.ensures.shape c.requires

pub returns-in_err-push-2-clause-robust : goal.returns-in_err-push-2-clause-robust
returns-in_err-push-2-clause-robust c = plain_is_robust c.args.shape.now c.args.rules.now c.targets-targets.ensures.shape c.requires

pub returns-clause-robust : goal.returns-clause-robust
returns-clause-robust c = plain_is_robust c.args.shape.now c.args.rules.now c.targets-targets.ensures.shape c.requires

pub loop-u-preserved : goal.loop-u-preserved
loop-u-preserved c =
    c.in_ok-push.ensures.items ∙ ap (λ (xs : List (Node ℕ Skipped)). xs ++ Fork c.loop-u.u 1 ∷ []) c.loop-u.invariant ∙ sym (made_more fork_on c.loop-u.u)

pub from_nodes-requires : goal.from_nodes-requires
from_nodes-requires c =
    let end : c.loop-u.u ≡ target_count c.args.shape.now = omega (arith, c.loop-u-test.false, c.loop-u.auto.u-end, c.targets-targets.ensures.count) in
    let nodes : c.push-2.new.self.items ≡ plain_nodes (target_count c.args.shape.now) (record {}) =
    c.in_ok-push-2.ensures.items ∙ ap (λ (xs : List (Node ℕ Skipped)). xs ++ Close (record {}) ∷ []) (c.loop-u.invariant ∙ ap (λ (n : ℕ). map fork_on (range_with_len 0 n)) end) in
    (plain_tree c.args.shape.now c.args.rules.now c.targets-targets.ensures.shape (record {}) c.push-2.new.self.items nodes).lists

pub returns-clause-tree : goal.returns-clause-tree
returns-clause-tree c =
    let end : c.loop-u.u ≡ target_count c.args.shape.now = omega (arith, c.loop-u-test.false, c.loop-u.auto.u-end, c.targets-targets.ensures.count) in
    let nodes : c.push-2.new.self.items ≡ plain_nodes (target_count c.args.shape.now) (record {}) =
    c.in_ok-push-2.ensures.items ∙ ap (λ (xs : List (Node ℕ Skipped)). xs ++ Close (record {}) ∷ []) (c.loop-u.invariant ∙ ap (λ (n : ℕ). map fork_on (range_with_len 0 n)) end) in
    plain_tree c.args.shape.now c.args.rules.now c.targets-targets.ensures.shape (record {}) c.from_nodes.result (c.from_nodes.ensures ∙ nodes)

pub returns-clause-rising : goal.returns-clause-rising
returns-clause-rising c =
    let end : c.loop-u.u ≡ target_count c.args.shape.now = omega (arith, c.loop-u-test.false, c.loop-u.auto.u-end, c.targets-targets.ensures.count) in
    let nodes : c.push-2.new.self.items ≡ plain_nodes (target_count c.args.shape.now) (record {}) =
    c.in_ok-push-2.ensures.items ∙ ap (λ (xs : List (Node ℕ Skipped)). xs ++ Close (record {}) ∷ []) (c.loop-u.invariant ∙ ap (λ (n : ℕ). map fork_on (range_with_len 0 n)) end) in
    ap (take (target_count c.args.shape.now)) (c.from_nodes.ensures ∙ nodes) ∙ nodes_rise (target_count c.args.shape.now) (record {})

pub returns-clause-nodes : goal.returns-clause-nodes
returns-clause-nodes c =
    let end : c.loop-u.u ≡ target_count c.args.shape.now = omega (arith, c.loop-u-test.false, c.loop-u.auto.u-end, c.targets-targets.ensures.count) in
    let nodes : c.push-2.new.self.items ≡ plain_nodes (target_count c.args.shape.now) (record {}) =
    c.in_ok-push-2.ensures.items ∙ ap (λ (xs : List (Node ℕ Skipped)). xs ++ Close (record {}) ∷ []) (c.loop-u.invariant ∙ ap (λ (n : ℕ). map fork_on (range_with_len 0 n)) end) in
    ap length (c.from_nodes.ensures ∙ nodes) ∙ nodes_long (target_count c.args.shape.now) (record {})

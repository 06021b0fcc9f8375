-- How many Close and Fork nodes an open tree has at most.
use Rattle.std.proofs.Common.{◌≡◌, ℕ, zero, suc, ◌+◌, ◌-◌, ◌*◌, ◌^◌, ◌<◌, ◌≤◌, Bool, true, false, cond, Some, List, length, count_by, refl, ap, subst, ◌∙◌, arith}
use Rattle.std.proofs.lemmas.Nat.{pow_pos}
use Rattle.std.proofs.lemmas.List.{length-append}
use Rattle.std.proofs.lemmas.List.Sums.{sum_by-append, sum_by-cons}
use Rattle.std.proofs.Math.Nat.{pow-succ', mul-le-mul_right}
use Rattle.std.proofs.Math.Pow.{pow_mono}
use Rattle.lat_base.specs.declared.contest.Contest.{Contest}
use Rattle.lat_base.specs.Rules.{RuleSet}
use Rattle.lat_base.specs.Shape.{target_count, IsShape}
use Rattle.close_rules.specs.declared.label.Label.{Label}
use Rattle.close_rules.specs.declared.label.Label.TheVariants.{Mark as MarkOf, Split}
use Rattle.close_rules.specs.declared.reason.Reason.{Reason}
use Rattle.close_rules.specs.Moves.{is_allowed, kid_of}
use Rattle.close_rules.proofs.Kids.{kid_partial}
use Rattle.deck_state.specs.PartialDeck.{PartialDeck, empty}
use Rattle.deck_state.specs.Changes.{narrowed}
use Rattle.deck_state.specs.Trail.{IsPartial}
use Rattle.deck_state.specs.Votes.{lo, hi}
use Rattle.deck_state.proofs.Opened.{empty_partial}
use Rattle.deck_state.proofs.Room.{steps_fit}
use Rattle.deck_space.specs.Steps.{deck_steps, kid_count}
use Rattle.std.specs.Prelude.{◌==◌}
use Rattle.tree_core.specs.declared.node.Node.{Node}
use Rattle.tree_core.specs.declared.node.Node.TheVariants.{Fork}
use Rattle.tree_core.specs.Checks.{ChecksWith, KidsCheckWith}
use Rattle.tree_core.specs.Nodes.{is_pick}
use Rattle.tree_core.specs.Reading.{tree_of}
use Rattle.tree_core.specs.Rose.{Rose, Closed, Forked, Opened, Roses, none, more, count, preorder, preorder_all}
use Rattle.tree_core.specs.Steps.{Steps}
use Rattle.tree_search.specs.Outcome.{IsOpenTree}
use Rattle.cert_types.specs.declared.license.License.{License}
use Rattle.cert_types.specs.declared.license.License.TheVariants.{Tree, Deck}
use Rattle.planner.specs.Reach.{IsInReach, IsAmple}
use Rattle.planner.proofs.Styles.{alike_kid}

double : (m : ℕ) → 2 ^ (m + 1) ≡ 2 * 2 ^ m
double m = let e : m + 1 ≡ suc m = omega arith in ap (λ (k : ℕ). 2 ^ k) e ∙ pow-succ' 2 m

two_kids : (c x p : ℕ) → c ≤ 2 → p + c ≤ c * x → 1 ≤ x → p + 2 ≤ 2 * x
two_kids zero x p few h some = omega (arith, h, some)
two_kids (suc zero) x p few h some = omega (arith, h, some)
two_kids (suc (suc zero)) x p few h some = omega (arith, h)
two_kids (suc (suc (suc c))) x p few h some = absurd (omega (arith, few))

-- where each kid has less room and a label has at most two kids
module _ {S B R : Type 0} (steps : Steps S B R) (own : S → Type 0) (size : S → ℕ)
    (few : (s : S) (l : B) (n : ℕ) → steps.arity s l ≡ Some n → n ≤ 2)
    (keeps : (s : S) (l : B) (n k : ℕ) → own s → steps.arity s l ≡ Some n → own (steps.kid s l k))
    (falls : (s : S) (l : B) (n k : ℕ) → own s → steps.arity s l ≡ Some n → size (steps.kid s l k) < size s) where
  mutual
    pub nodes_few : (t : Rose B R) (s : S) → own s → ChecksWith true steps s t
        → count_by is_pick (preorder t) + 1 ≤ 2 ^ (size s + 1)
    nodes_few (Closed r) s o h = omega (arith, double (size s), pow_pos (size s))
    nodes_few Opened s o h = omega (arith, pow_pos (size s + 1))
    nodes_few (Forked l ts) s o h =
        let kids = kids_few ts s l 0 (count ts) o h.0 h.1 in
        let all = two_kids (count ts) (2 ^ size s) (count_by is_pick (preorder_all ts)) (few s l (count ts) h.0) kids (omega (arith, pow_pos (size s))) in
        omega (arith, all, sum_by-cons (λ (n : Node B R). cond (is_pick n) 1 0) (Fork l (count ts)) (preorder_all ts), double (size s))

    pub kids_few : (ts : Roses B R) (s : S) (l : B) (from n : ℕ) → own s → steps.arity s l ≡ Some n
        → KidsCheckWith true steps s l from ts
        → count_by is_pick (preorder_all ts) + count ts ≤ count ts * 2 ^ size s
    kids_few none s l from n o a h = omega arith
    kids_few (more t ts) s l from n o a h =
        let one = nodes_few t (steps.kid s l from) (keeps s l n from o a) h.0 in
        let rest = kids_few ts s l (suc from) n o a h.1 in
        let less = falls s l n from o a in
        let most : 2 ^ (size (steps.kid s l from) + 1) ≤ 2 ^ size s = pow_mono {i = size (steps.kid s l from) + 1} {j = size s} (omega (arith, less)) in
        let both = sum_by-append (λ (n : Node B R). cond (is_pick n) 1 0) (preorder t) (preorder_all ts) in
        omega (arith, one, rest, most, both)

-- how many steps can still be made at a partial deck
abbrev left : PartialDeck → ℕ
left p = 2 * (p.ballots * target_count p.contests) - length p.steps

one_more : (p : PartialDeck) (label : Label) (k : ℕ)
    → length (kid_of p label k).steps ≡ length p.steps + 1
one_more p (MarkOf j t) k = length-append p.steps _
one_more p (Split t x) k = by_kid (k == 0)
  where
    by_kid : (first : Bool) → length
        (cond first (narrowed p t (lo p t) (x - 1)) (narrowed p t x (hi p t))).steps
        ≡ length p.steps + 1
    by_kid true = length-append p.steps _
    by_kid false = length-append p.steps _

two_or_none : (allowed : Bool) (n : ℕ) → kid_count allowed ≡ Some n → (allowed ≡ true) × (n ≤ 2)
two_or_none true n h = let two : 2 ≡ n = cc in (refl, omega (arith, two))
two_or_none false n h = cc

less_left : (p : PartialDeck) (label : Label) (k : ℕ) → IsPartial p → is_allowed p label ≡ true
    → left (kid_of p label k) < left p
less_left p label k is allowed =
    let kid = kid_of p label k in
    let alike = alike_kid p label k in
    let fit = steps_fit kid (kid_partial p label k is allowed) in
    let same : kid.ballots * target_count kid.contests ≡ p.ballots * target_count p.contests = λ i. alike.ballots i * target_count (alike.contests i) in
    omega (arith, fit, same, one_more p label k)

-- an open tree over the decks of k ballots has fewer than 2 to the power 2 k T + 1 Close and Fork
-- nodes
pub open_tree_few : (contests : List Contest) (rules : RuleSet) (k budget : ℕ)
    (nodes : List (Node Label Reason)) → IsShape contests → k ≤ 1024
    → IsOpenTree deck_steps (empty contests rules k) budget nodes
    → budget < 2 ^ (2 * (k * target_count contests) + 1)
open_tree_few contests rules k budget nodes shape few open_tree =
    let bound = nodes_few deck_steps (λ p. IsPartial p) left
    (λ p l n h. (two_or_none (is_allowed p l) n h).1)
    (λ p l n j is h. kid_partial p l j is (two_or_none (is_allowed p l) n h).0)
    (λ p l n j is h. less_left p l j is (two_or_none (is_allowed p l) n h).0)
    (tree_of nodes) (empty contests rules k) (empty_partial contests rules k shape few) open_tree.checks in
    let same : count_by is_pick (preorder (tree_of nodes)) ≡ budget = ap (count_by is_pick) open_tree.lists ∙ open_tree.count in
    let whole : left (empty contests rules k) ≡ 2 * (k * target_count contests) = omega arith in
    let most = subst (λ (n : ℕ). count_by is_pick (preorder (tree_of nodes)) + 1 ≤ 2 ^ (n + 1)) whole bound in
    omega (arith, most, same)

-- no budget is within reach and ample
pub not_ample : (contests : List Contest) (k max budget : ℕ) (license : License) → k ≤ max
    → IsInReach contests k budget license → IsAmple contests max budget → ⊥
not_ample contests k max budget (Tree tree) few reach ample =
    let width : 2 * (k * target_count contests) + 1 ≤ 2 * (max * target_count contests) + 1 = omega (arith, mul-le-mul_right (target_count contests) few) in
    let grows : 2 ^ (2 * (k * target_count contests) + 1) ≤ 2 ^ (2 * (max * target_count contests) + 1) = pow_mono {i = 2 * (k * target_count contests) + 1} {j = 2 * (max * target_count contests) + 1} width in
    let much = ample.trees in
    omega (arith, grows, reach, much)
not_ample contests k max budget (Deck deck tree) few reach ample = reach ample.attacks

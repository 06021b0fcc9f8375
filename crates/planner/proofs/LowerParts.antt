-- Lower parts: of the whole style, of one node, and what they leave.
use Rattle.std.proofs.Common.{◌≡◌, ◌+◌, ◌<◌, ◌≤◌, ℕ, zero, suc, Option, Some, None, true, List, [], ◌∷◌, length, take, refl, ap, sym, subst, ◌∙◌, arith}
use Rattle.std.specs.Prelude.{slice_get}
use Rattle.std.specs.List.{range_with_len}
use Rattle.std.proofs.lemmas.List.{length-map, ext_get_or}
use Rattle.std.proofs.lemmas.List.FromFn.{get_or-range_with_len, length-range_with_len, get_or-map-range_with_len, length-map-range_with_len}
use Rattle.lat_base.specs.declared.contest.Contest.{Contest}
use Rattle.lat_base.specs.Goodness.{NoGoodBelow}
use Rattle.lat_base.specs.Part.{IsPart, part, restricted, cut}
use Rattle.lat_base.specs.Rules.{RuleSet}
use Rattle.lat_base.specs.Shape.{IsShape, contest_at, no_contest}
use Rattle.close_rules.specs.declared.label.Label.{Label}
use Rattle.close_rules.specs.declared.reason.Reason.{Reason}
use Rattle.close_rules.specs.Refutes.{refutes}
use Rattle.deck_state.specs.PartialDeck.{PartialDeck, empty}
use Rattle.deck_space.proofs.NoGoodDeck.{no_good_below}
use Rattle.projection.proofs.GoodParts.{good_restricted}
use Rattle.projection.proofs.Rising.{part_shape}
use Rattle.lat_base.proofs.ShapeFacts.{is_shape}
use Rattle.tree_core.specs.declared.node.Node.{Node}
use Rattle.tree_core.specs.declared.node.Node.TheVariants.{Close}
use Rattle.tree_core.specs.Reading.{IsTree, tree_of}
use Rattle.cert_types.specs.LowerPart.{LowerPart}
use Rattle.cert_types.specs.declared.proved.Proved.{Proved}
use Rattle.planner.specs.Answer.{IsLeast, IsNoneWithin, most}
use Rattle.planner.specs.Eager.{IsEagerAt, IsEagerTree}
use Rattle.cert_types.specs.Lower.{IsLower}
use Rattle.planner.specs.Lower.{IsLowerFor}
use Rattle.planner.specs.Searched.{IsGoodOf, IsClosedTree}
use Rattle.planner.specs.Step.{IsLowerOf}

at_close : (r : Reason) (i : ℕ) (before : List (Node Label Reason)) (s : PartialDeck)
    (node : Node Label Reason) → slice_get (Close r ∷ []) i ≡ Some node → IsEagerAt 64 before s node
at_close r zero before s node get = let same : Close r ≡ node = cc in subst (IsEagerAt 64 before s) same tt
at_close r (suc i) before s node get = cc

-- a node that is closed at the root
only_close : (root : PartialDeck) (r : Reason) → IsEagerTree root (Close r ∷ [])
only_close root r = λ i s node get at. at_close r i (take i (Close r ∷ [])) s node get

pub one_node : (contests : List Contest) (rules : RuleSet) (k : ℕ) (p : PartialDeck) (r : Reason)
    (tree : List (Node Label Reason)) → p ≡ empty contests rules k → refutes p r ≡ true
    → IsTree tree → tree ≡ Close r ∷ [] → IsClosedTree contests rules k tree
one_node contests rules k p r tree begins holds lists is =
    subst (IsClosedTree contests rules k) (sym is) (record { lists = subst IsTree is lists; checks = subst (λ (q : PartialDeck). refutes q r ≡ true) begins holds; eager = only_close (empty contests rules k) r })

-- the part of all contests
all_there : (contests : List Contest)
    → part contests (range_with_len 0 (length contests)) ≡ contests
all_there contests =
    ext_get_or no_contest (part contests (range_with_len 0 (length contests))) contests (length-map-range_with_len (contest_at contests) 0 (length contests))
    (λ i lt. get_or-map-range_with_len (contest_at contests) 0 (length contests) i i no_contest (omega (arith, lt, length-map-range_with_len (contest_at contests) 0 (length contests))) (omega arith))

all_part : (contests : List Contest) → IsShape contests
    → IsPart contests (range_with_len 0 (length contests))
all_part contests is = record {
  some = omega (arith, is.some, length-range_with_len 0 (length contests));
  within = λ i d lt. omega (arith, lt, length-range_with_len 0 (length contests), get_or-range_with_len 0 (length contests) i d (omega (arith, lt, length-range_with_len 0 (length contests))));
  rising = λ i lt. omega (arith, lt, length-range_with_len 0 (length contests), get_or-range_with_len 0 (length contests) i 0 (omega (arith, lt, length-range_with_len 0 (length contests))), get_or-range_with_len 0 (length contests) (i + 1) 0 (omega (arith, lt, length-range_with_len 0 (length contests))));
}

pub whole_part : (contests : List Contest) (rules : RuleSet) (k : ℕ) (lower : LowerPart)
    → IsShape contests → k ≤ 1024 → lower.contests ≡ range_with_len 0 (length contests)
    → lower.size ≡ k → IsClosedTree contests rules k lower.tree → IsLowerOf contests rules k lower
whole_part contests rules k lower is few all size closed =
    let chosen : part contests lower.contests ≡ contests = ap (part contests) all ∙ all_there contests in
    let there : IsClosedTree (part contests lower.contests) rules lower.size lower.tree = subst (λ (c : List Contest). IsClosedTree c rules lower.size lower.tree) (sym chosen) (subst (λ (n : ℕ). IsClosedTree contests rules n lower.tree) (sym size) closed) in
    record {
      size = size;
      is_lower = record { is_part = subst (IsPart contests) (sym all) (all_part contests is); few = omega (arith, few, size); lists = there.lists; checks = there.checks };
      eager = there.eager;
    }

-- a tree over a part
pub some_part : (contests : List Contest) (rules : RuleSet) (k : ℕ) (lower : LowerPart)
    (shape : List Contest) → k ≤ 1024 → IsPart contests lower.contests
    → shape ≡ part contests lower.contests → lower.size ≡ k → IsClosedTree shape rules k lower.tree
    → IsLowerOf contests rules k lower
some_part contests rules k lower shape few is at size closed =
    let there : IsClosedTree (part contests lower.contests) rules lower.size lower.tree = subst (λ (c : List Contest). IsClosedTree c rules lower.size lower.tree) at (subst (λ (n : ℕ). IsClosedTree shape rules n lower.tree) (sym size) closed) in
    record {
      size = size;
      is_lower = record { is_part = is; few = omega (arith, few, size); lists = there.lists; checks = there.checks };
      eager = there.eager;
    }

-- a lower part leaves no good deck of at most its size
pub lower_leaves : (contests : List Contest) (rules : RuleSet) (lower : LowerPart)
    → IsShape contests → IsLower contests rules lower → NoGoodBelow contests rules (lower.size + 1)
lower_leaves contests rules lower is holds deck fewer good =
    no_good_below (part contests lower.contests) rules lower.size (tree_of lower.tree) (is_shape (part contests lower.contests) (part_shape contests lower.contests is holds.is_part)) holds.few holds.checks
    (restricted contests lower.contests deck) (omega (arith, fewer, length-map deck (cut contests lower.contests))) (good_restricted contests lower.contests rules deck holds.is_part good)

-- and so does one for a size
pub lower_for_leaves : (contests : List Contest) (rules : RuleSet) (k : ℕ)
    (lower : Option LowerPart) → IsShape contests → IsLowerFor contests rules k lower
    → NoGoodBelow contests rules k
lower_for_leaves contests rules k None is none = λ deck fewer good. absurd (omega (arith, fewer, none))
lower_for_leaves contests rules k (Some lower) is holds = subst (NoGoodBelow contests rules) holds.0 (lower_leaves contests rules lower is holds.1)

-- a good deck at the first size that isn't closed
pub least_there : (contests : List Contest) (rules : RuleSet) (max k : ℕ) (proved : Proved)
    (lower : Option LowerPart) → IsShape contests → k ≤ max → IsGoodOf contests rules k proved
    → IsLowerFor contests rules k lower → IsLeast contests rules max proved lower
least_there contests rules max k proved lower is few good below =
    let at : IsLowerFor contests rules (length proved.deck.ballots) lower = subst (λ (n : ℕ). IsLowerFor contests rules n lower) (sym good.size) below in
    record {
      is_proved = good.is_proved;
      good = good.good;
      canonical = good.canonical;
      within = omega (arith, few, good.size);
      least = ((proved.deck.ballots, good.good, refl), lower_for_leaves contests rules (length proved.deck.ballots) lower is at);
      lower_for = at;
    }

-- no size is left
pub none_left : (contests : List Contest) (rules : RuleSet) (max : ℕ) (lower : LowerPart)
    → IsShape contests → IsLowerFor contests rules (max + 1) (Some lower)
    → max < most contests rules → IsNoneWithin contests rules max lower
none_left contests rules max lower is holds plain = record { none = lower_for_leaves contests rules (max + 1) (Some lower) is holds; size = omega (arith, holds.0); is_lower = holds.1; plain = plain }

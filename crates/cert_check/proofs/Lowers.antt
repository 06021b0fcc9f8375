-- Parts of a style, and what a lower part that holds leaves.
use Rattle.std.proofs.Common.{◌≡◌, ◌+◌, ℕ, Bool, true, false, nat_le, nat_lt, List, [], ◌∷◌, length, cond, Option, Some, None, refl, subst, arith}
use Rattle.std.specs.Prelude.{◌==◌}
use Rattle.std.proofs.lemmas.Bool.Decides.{nat_tests}
use Rattle.std.proofs.lemmas.List.{length-map}
use Rattle.lat_base.specs.declared.contest.Contest.{Contest}
use Rattle.lat_base.specs.Goodness.{NoGoodBelow}
use Rattle.lat_base.specs.Part.{IsPart, part, restricted, cut}
use Rattle.lat_base.specs.Rules.{RuleSet}
use Rattle.lat_base.specs.Shape.{IsShape}
use Rattle.lat_base.proofs.ShapeFacts.{is_shape}
use Rattle.deck_space.proofs.NoGoodDeck.{no_good_below}
use Rattle.projection.specs.PartFault.{place_fault, part_fault}
use Rattle.projection.proofs.GoodParts.{good_restricted}
use Rattle.projection.proofs.Rising.{Rises, part_rises, part_shape}
use Rattle.tree_core.specs.Reading.{tree_of}
use Rattle.close_rules.specs.declared.label.Label.{Label}
use Rattle.close_rules.specs.declared.reason.Reason.{Reason}
use Rattle.deck_state.specs.PartialDeck.{PartialDeck, empty}
use Rattle.deck_space.specs.Steps.{deck_steps}
use Rattle.tree_core.specs.declared.node.Node.{Node}
use Rattle.tree_core.specs.Places.{IsFirstFault}
use Rattle.cert_types.specs.Lower.{IsLower, IsLowerFault, lower_root}
use Rattle.cert_types.specs.LowerPart.{LowerPart}

-- no place of rising numbers is bad
no_place_fault : (n i least : ℕ) (chosen : List ℕ) → Rises n least chosen
    → place_fault n i least chosen ≡ None
no_place_fault n i least [] up = refl
no_place_fault n i least (c ∷ chosen) up =
    let low = up.0 in
    let within = up.1 in
    let first : nat_le n c ≡ false = grind (arith, nat_tests, within) in
    let second : nat_lt c least ≡ false = grind (arith, nat_tests, low) in
    neither _ _ (place_fault n (i + 1) (c + 1) chosen) (nat_le n c) (nat_lt c least) first second (no_place_fault n (i + 1) (c + 1) chosen up.2)
  where
    neither : {A : Type 0} (p q : A) (rest : Option A) (x y : Bool) → x ≡ false → y ≡ false
        → rest ≡ None → cond x (Some p) (cond y (Some q) rest) ≡ None
    neither p q rest true y e f h = cc
    neither p q rest false true e f h = cc
    neither p q rest false false e f h = h

-- nothing is wrong with the contests of a part
pub no_part_fault : (contests : List Contest) (chosen : List ℕ) → IsPart contests chosen
    → part_fault contests chosen ≡ None
no_part_fault contests chosen is =
    let some = is.some in
    let first : (length chosen == 0) ≡ false = grind (arith, nat_tests, some) in
    alone _ (place_fault (length contests) 0 0 chosen) (length chosen == 0) first (no_place_fault (length contests) 0 0 chosen (part_rises contests chosen is))
  where
    alone : {A : Type 0} (p : A) (rest : Option A) (x : Bool) → x ≡ false → rest ≡ None
        → cond x (Some p) rest ≡ None
    alone p rest true e h = cc
    alone p rest false e h = h

-- a lower part that holds leaves no good deck of at most its size
pub lower_leaves : (contests : List Contest) (rules : RuleSet) (lower : LowerPart)
    → IsShape contests → IsLower contests rules lower → NoGoodBelow contests rules (lower.size + 1)
lower_leaves contests rules lower is holds deck fewer good =
    let chosen = lower.contests in
    let cut_deck = restricted contests chosen deck in
    no_good_below (part contests chosen) rules lower.size (tree_of lower.tree)
    (is_shape (part contests chosen) (part_shape contests chosen is holds.is_part)) holds.few holds.checks
    cut_deck (omega (arith, fewer, length-map deck (cut contests chosen)))
    (good_restricted contests chosen rules deck holds.is_part good)

-- a first fault at a partial deck is one at an equal one
pub fault_at : (open_holds : Bool) (p q : PartialDeck) (nodes : List (Node Label Reason)) (i : ℕ)
    → p ≡ q → IsFirstFault open_holds deck_steps p nodes i
    → IsFirstFault open_holds deck_steps q nodes i
fault_at open_holds p q nodes i same fault =
    subst (λ (d : PartialDeck). IsFirstFault open_holds deck_steps d nodes i) same fault

-- the first fault of a lower part's tree, at the part's decks
pub lower_fault_there : (contests shape : List Contest) (rules : RuleSet) (lower : LowerPart)
    (p : PartialDeck) (size : ℕ) (tree : List (Node Label Reason)) (i : ℕ)
    → size ≡ lower.size → tree ≡ lower.tree → shape ≡ part contests lower.contests
    → p ≡ empty shape rules size → IsFirstFault false deck_steps p tree i
    → IsLowerFault contests rules lower i
lower_fault_there contests shape rules lower p size tree i sized listed is begins fault =
    let there : p ≡ empty shape rules lower.size = subst (λ (n : ℕ). p ≡ empty shape rules n) sized begins in
    let at : p ≡ lower_root contests rules lower = subst (λ (c : List Contest). p ≡ empty c rules lower.size) is there in
    let own : IsFirstFault false deck_steps p lower.tree i = subst (λ (ns : List (Node Label Reason)). IsFirstFault false deck_steps p ns i) listed fault in
    fault_at false p (lower_root contests rules lower) lower.tree i at own

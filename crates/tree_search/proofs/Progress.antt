-- How far a search has come, and what it has at its ends.
use Rattle.std.proofs.Common.{◌≡◌, ℕ, suc, ◌+◌, false, true, Some, List, [], ◌∷◌, ◌++◌, length, take, refl, ap, sym, ◌∙◌, subst, count_by}
use Rattle.std.specs.List.{slice_get}
use Rattle.std.proofs.Math.Seq.{take-append_seam}
use Rattle.tree_core.specs.declared.node.Node.{Node}
use Rattle.tree_core.specs.declared.node.Node.TheVariants.{Close, Fork, Open}
use Rattle.tree_core.specs.declared.walk.Entry.{Entry}
use Rattle.tree_core.specs.Reading.{IsTree, tree_of}
use Rattle.tree_core.specs.Nodes.{is_pick, IsGapless, IsFirstOpen}
use Rattle.tree_core.specs.Steps.{Steps}
use Rattle.tree_core.specs.Checks.{NodeHolds, Checks}
use Rattle.tree_core.specs.Places.{EachPlace, ahead}
use Rattle.tree_core.specs.Walk.{IsAt}
use Rattle.tree_core.proofs.Walks.{weaken}
use Rattle.tree_core.proofs.Each.{each_nil, each_snoc}
use Rattle.tree_core.proofs.Holding.{checks_from_each}
use Rattle.tree_search.specs.declared.pick.Pick.{Pick}
use Rattle.tree_search.specs.declared.pick.Pick.TheVariants as picks
use Rattle.tree_search.specs.Habits.{Habits, KeepsHabits}
use Rattle.tree_search.specs.Memory.{remembered, after_node, IsRelated, Follows}
use Rattle.tree_core.proofs.Below.{stands_below}
use Rattle.tree_search.specs.Outcome.{IsOpenTree, IsHalted}
use Rattle.tree_search.specs.Turn.{IsPicked, opens, AddsOpen}
use Rattle.tree_search.proofs.Opens.{each_opens, count-opened, remembered-opened}
use Rattle.tree_search.proofs.Picks.{AllPicked, picked_nil, picked_snoc, count-snoc, gapless, first_open}

-- the habits that are kept twice are kept
pub keeps_keeps : {S B R P W : Type 0} (old mid new : Habits S B R P W) → KeepsHabits old mid
    → KeepsHabits mid new → KeepsHabits old new
keeps_keeps old mid new a b = record {
  rule = b.rule ∙ a.rule;
  relation = λ m s p. (λ h. (a.relation m s p).0 ((b.relation m s p).0 h), λ h. (b.relation m s p).1 ((a.relation m s p).1 h));
  proves = λ s p. (λ h. (a.proves s p).0 ((b.proves s p).0 h), λ h. (b.proves s p).1 ((a.proves s p).1 h));
  excuses = λ s w. (λ h. (a.excuses s w).0 ((b.excuses s w).0 h), λ h. (b.excuses s w).1 ((a.excuses s w).1 h));
}

pub keeps_same : {S B R P W : Type 0} (habits : Habits S B R P W) → KeepsHabits habits habits
keeps_same habits = record {
  rule = refl;
  relation = λ m s p. (λ h. h, λ h. h);
  proves = λ s p. (λ h. h, λ h. h);
  excuses = λ s w. (λ h. h, λ h. h);
}

remembered-snoc : {B R P W : Type 0} (rule : List R → Pick B R P W → List R) (m : List R)
    (ns : List (Node B R)) (n : Node B R)
    → remembered rule m (ns ++ (n ∷ [])) ≡ after_node rule (remembered rule m ns) n
remembered-snoc rule m [] n = refl
remembered-snoc rule m (k ∷ ns) n = remembered-snoc rule (after_node rule m k) ns n

module _ {S B R P W : Type 0} (steps : Steps S B R) (habits : Habits S B R P W) (root : S) (memory : List R) where
  -- the nodes are Close and Fork nodes that hold at their places, as many as were picked, and they
  -- follow the habits
  pub record Picked (nodes : List (Node B R)) (later : List R) (picked : ℕ) : Type 0 where
    pub holds : EachPlace steps root nodes (λ _ s node. NodeHolds false steps s node)
    pub follows : Follows habits steps root memory later nodes
    pub all : AllPicked nodes
    pub count : count_by is_pick nodes ≡ picked

  pub picked_none : Picked [] memory 0
  picked_none = record {
    holds = each_nil steps root (λ _ s node. NodeHolds false steps s node);
    follows = record { related = each_nil steps root (IsRelated habits memory); memory = refl };
    all = picked_nil;
    count = refl;
  }

  -- what was picked under later habits meets the first relation
  related_here : (now : Habits S B R P W) (m m' : List R) (ns : List (Node B R)) (s : S)
      (n : Node B R) → KeepsHabits habits now → m ≡ remembered habits.rule memory ns
      → IsPicked steps now m m' s n → IsRelated habits memory ns s n
  related_here now m m' ns s (Close r) keeps e p = subst (λ mm. habits.relation mm s (picks.Close r)) e ((keeps.relation m s (picks.Close r)).0 p.related)
  related_here now m m' ns s (Fork l k) keeps e p = subst (λ mm. habits.relation mm s (picks.Fork l)) e ((keeps.relation m s (picks.Fork l)).0 p.related)
  related_here now m m' ns s Open keeps e p = tt

  snoc : (own : S → Type 0) (now : Habits S B R P W) (nodes : List (Node B R)) (way : List Entry)
      (here : S) (node : Node B R) (m m' : List R) (picked : ℕ) → Picked nodes m picked
      → IsAt steps own root nodes way here → KeepsHabits habits now
      → IsPicked steps now m m' here node → Picked (nodes ++ (node ∷ [])) m' (picked + 1)
  snoc own now nodes way here node m m' picked h at keeps p =
      let state : slice_get (ahead steps (root ∷ []) nodes) 0 ≡ Some here = ap (λ (xs : List S). slice_get xs 0) at.walk in
      record {
        holds = each_snoc steps root nodes node here (λ _ s n. NodeHolds false steps s n) h.holds state p.holds;
        follows = record {
          related = each_snoc steps root nodes node here (IsRelated habits memory) h.follows.related state (related_here now m m' nodes here node keeps h.follows.memory p);
          memory = p.memory ∙ ap (λ rule. after_node rule m node) keeps.rule ∙ ap (λ mm. after_node habits.rule mm node) h.follows.memory ∙ sym (remembered-snoc habits.rule memory nodes node);
        };
        all = picked_snoc nodes node h.all p.is_picked;
        count = count-snoc nodes node p.is_picked ∙ ap (λ k. k + 1) h.count;
      }

  -- one more pick
  pub picked_more : (own : S → Type 0) (now : Habits S B R P W) (nodes new : List (Node B R))
      (way : List Entry) (here : S) (node : Node B R) (m m' : List R) (picked : ℕ)
      → new ≡ nodes ++ (node ∷ [])
      → Picked nodes m picked → IsAt steps own root nodes way here → KeepsHabits habits now
      → IsPicked steps now m m' here node → Picked new m' (picked + 1)
  picked_more own now nodes new way here node m m' picked e h at keeps p =
      subst (λ ns. Picked ns m' (picked + 1)) (sym e) (snoc own now nodes way here node m m' picked h at keeps p)

  -- the memory after a Halt goes by the first rule
  pub halt_memory : (now : Habits S B R P W) (m m' : List R) (why : W) → KeepsHabits habits now
      → m' ≡ now.rule m (picks.Halt why) → m' ≡ habits.rule m (picks.Halt why)
  halt_memory now m m' why keeps e = e ∙ ap (λ rule. rule m (picks.Halt why)) keeps.rule

  -- picked nodes that list a tree check
  pub picked_checks : (nodes : List (Node B R)) (m : List R) (picked : ℕ) → Picked nodes m picked
      → IsTree nodes → Checks steps root (tree_of nodes)
  picked_checks nodes m picked h tree = checks_from_each steps false root nodes tree h.holds

  module _ (old new : List (Node B R)) (m : List R) (picked : ℕ) (h : Picked old m picked) (o : AddsOpen old new) where
    -- with open nodes behind them they are an open tree
    pub opened_tree : IsTree new → IsOpenTree steps root picked new
    opened_tree tree = record {
      lists = tree;
      checks = checks_from_each steps true root new tree
          (subst (λ ns. EachPlace steps root ns (λ _ s n. NodeHolds true steps s n)) (sym o.1)
          (each_opens steps (suc o.0) root old (λ _ s n. NodeHolds true steps s n) (λ _ s. refl) (λ i s n get state. weaken false steps s n (h.holds i s n get state))));
      count = ap (count_by is_pick) o.1 ∙ count-opened old (suc o.0) ∙ h.count;
      has_open = (length old, ap (λ ns. slice_get ns (length old)) o.1 ∙ (first_open old o.0 h.all).0);
    }

    pub opened_gapless : IsGapless new
    opened_gapless = subst IsGapless (sym o.1) (gapless old (suc o.0) h.all)

    -- which follows the habits too
    pub opened_follows : Follows habits steps root memory m new
    opened_follows = record {
      related = subst (λ ns. EachPlace steps root ns (IsRelated habits memory)) (sym o.1)
          (each_opens steps (suc o.0) root old (IsRelated habits memory) (λ _ _. tt) h.follows.related);
      memory = h.follows.memory ∙ sym (ap (remembered habits.rule memory) o.1 ∙ remembered-opened habits.rule memory old (suc o.0));
    }

    -- and what was said at the place behind them was said at the first open leaf
    pub opened_halted : (own : S → Type 0) (now : Habits S B R P W) (way : List Entry) (here : S)
        (why : W) → IsAt steps own root old way here → KeepsHabits habits now
        → now.excuses here why → now.relation m here (picks.Halt why)
        → IsHalted steps own habits root memory new why
    opened_halted own now way here why at keeps excused related =
        let front : take (length old) new ≡ old = ap (take (length old)) o.1 ∙ take-append_seam old (opens (suc o.0)) in
        record {
          place = length old;
          state = here;
          lies_below = stands_below steps own old root way here at.to_come at.stands;
          first = subst (λ ns. IsFirstOpen ns (length old)) (sym o.1) (first_open old o.0 h.all);
          at_place = ap (λ ns. slice_get (ahead steps (root ∷ []) ns) 0) front ∙ ap (λ (xs : List S). slice_get xs 0) at.walk;
          excused = (keeps.excuses here why).0 excused;
          related = rw (front, ← h.follows.memory) ((keeps.relation m here (picks.Halt why)).0 related);
        }

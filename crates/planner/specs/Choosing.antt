-- How the search for a deck goes on at a partial deck, and what it remembers.
use Rattle.std.specs.Prelude.{◌≡◌, ℕ, ◌*◌, ◌≤◌, Bool, true, false, if◌then◌else◌, Some, List, [], ◌∷◌, ◌++◌, slice_get, slice_set}
use Rattle.circular_buffer.specs.Buffer.{keep_last}
use Rattle.lat_base.specs.declared.contest.Contest.{Contest}
use Rattle.lat_base.specs.Shape.{target_count}
use Rattle.lat_ballots.specs.Deck.{Ballots}
use Rattle.deck_state.specs.PartialDeck.{PartialDeck}
use Rattle.deck_state.specs.Shown.{IsComplete, shown}
use Rattle.deck_state.specs.Trail.{IsPartial}
use Rattle.close_rules.specs.declared.label.Label.{Label}
use Rattle.close_rules.specs.declared.reason.Reason.{Reason}
use Rattle.close_rules.specs.declared.reason.Reason.TheVariants as reasons
use Rattle.close_rules.specs.Refutes.{refutes, IsCheap}
use Rattle.close_rules.specs.Solution.{IsSolution}
use Rattle.evade_space.specs.Trees.{IsRobustTree, IsOpenAttack, factorial}
use Rattle.tree_core.specs.Nodes.{IsGapless}
use Rattle.tree_search.specs.declared.pick.Pick.{Pick}
use Rattle.tree_search.specs.declared.pick.Pick.TheVariants.{Close, Fork, Found, Halt}
use Rattle.tree_search.specs.Habits.{Habits}
use Rattle.cert_types.specs.declared.proved.Proved.{Proved}
use Rattle.planner.specs.declared.attempt.Attempt.{Attempt}

-- the ballots of a style, as a deck
abbrev pub deck_of : List Contest → List (List Bool) → Ballots
deck_of contests ballots = record { targets = target_count contests; ballots = ballots }

-- the deck with that ballot in the place of ballot j
abbrev pub with_ballot : Ballots → ℕ → List Bool → Ballots
with_ballot deck j ballot = record deck { ballots = slice_set deck.ballots j ballot }

-- whether a reason is a misassignment
abbrev pub is_evade : Reason → Bool
is_evade (reasons.Evade s) = true
is_evade (reasons.Order j) = false
is_evade (reasons.Totals c) = false
is_evade (reasons.Capacity c) = false
is_evade reasons.Blank = false
is_evade (reasons.Over c) = false
is_evade (reasons.Twin c d) = false
is_evade (reasons.ContestOrder c d) = false
is_evade (reasons.Pigeon c) = false
is_evade reasons.Columns = false
is_evade (reasons.Same t u) = false

-- what is remembered after a partial deck was closed by a reason: of the misassignments the last n
abbrev pub noted : ℕ → List Reason → Reason → List Reason
noted n kept reason = if is_evade reason then keep_last n (kept ++ reason ∷ []) else kept

-- the same after any pick
abbrev pub remember : ℕ → List Reason → Pick Label Reason Proved Attempt → List Reason
remember n kept (Close reason) = noted n kept reason
remember n kept (Fork label) = kept
remember n kept (Found proof) = kept
remember n kept (Halt why) = kept

-- none of the reasons holds of the partial deck
abbrev pub NoneHolds : PartialDeck → List Reason → Type 0
NoneHolds p reasons = (i : ℕ) (r : Reason) → slice_get reasons i ≡ Some r → refutes p r ≡ false

-- no reason but a misassignment holds of the partial deck
abbrev pub NoCheap : PartialDeck → Type 0
NoCheap p = (r : Reason) → IsCheap r → refutes p r ≡ false

-- a partial deck is forked only where no reason but a misassignment holds, nor any that is
-- remembered
abbrev pub IsEager : List Reason → PartialDeck → Pick Label Reason Proved Attempt → Type 0
IsEager kept p (Close reason) = Unit {0}
IsEager kept p (Fork label) = NoCheap p × NoneHolds p kept
IsEager kept p (Found proof) = Unit {0}
IsEager kept p (Halt why) = Unit {0}

-- the deck of a complete partial deck, a solution, with the tree that shows that it is robust
pub record IsShownProved (p : PartialDeck) (proved : Proved) : Type 0 where
  pub deck : proved.deck ≡ deck_of p.contests (shown p)
  pub solution : IsSolution p (shown p)
  pub tree : IsRobustTree p.contests (shown p) proved.robust

-- the deck of a complete partial deck for which no cheap reason holds, with the tree of an attack
-- that is spent, as one with an ample budget isn't
pub record IsShownOpen (budget : ℕ) (p : PartialDeck) (attempt : Attempt) : Type 0 where
  pub is : IsPartial p
  pub complete : IsComplete p
  pub deck : attempt.deck ≡ deck_of p.contests (shown p)
  pub none : NoCheap p
  pub tree : IsOpenAttack p.contests (shown p) budget attempt.tree
  pub gapless : IsGapless attempt.tree
  pub reach : ¬ (3 * factorial (target_count p.contests) ≤ budget)

-- what the search for a deck remembers and shows
abbrev pub deck_habits : ℕ → ℕ → Habits PartialDeck Label Reason Proved Attempt
deck_habits n budget = record {
  rule = remember n;
  relation = IsEager;
  proves = IsShownProved;
  excuses = IsShownOpen budget;
}

-- a complete partial deck is closed by a misassignment, is a solution, or is left open
abbrev pub IsJudged : PartialDeck → ℕ → Pick Label Reason Proved Attempt → Type 0
IsJudged p budget (Close reason) = refutes p reason ≡ true
IsJudged p budget (Fork label) = ⊥
IsJudged p budget (Found proved) = IsShownProved p proved
IsJudged p budget (Halt attempt) = IsShownOpen budget p attempt

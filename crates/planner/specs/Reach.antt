-- Budgets that no search and no attack can spend.
use Rattle.std.specs.Prelude.{ℕ, ◌+◌, ◌*◌, ◌^◌, ◌<◌, ◌≤◌, List}
use Rattle.lat_base.specs.declared.contest.Contest.{Contest}
use Rattle.lat_base.specs.Shape.{target_count}
use Rattle.evade_space.specs.Trees.{factorial}
use Rattle.cert_types.specs.declared.license.License.{License}
use Rattle.cert_types.specs.declared.license.License.TheVariants.{Tree, Deck}
use Rattle.planner.specs.declared.answer.Answer.{Answer}
use Rattle.planner.specs.declared.answer.Answer.TheVariants.{Least, NoneWithin, Spent}

-- the budget of a license is less than what no tree over k ballots, or no attack, can spend
abbrev pub IsInReach : List Contest → ℕ → ℕ → License → Type 0
IsInReach contests k budget (Tree nodes) = budget < 2 ^ (2 * (k * target_count contests) + 1)
IsInReach contests k budget (Deck deck nodes) = ¬ (3 * factorial (target_count contests) ≤ budget)

-- a budget that neither can spend, up to `max` ballots
pub record IsAmple (contests : List Contest) (max budget : ℕ) : Type 0 where
  pub trees : 2 ^ (2 * (max * target_count contests) + 1) ≤ budget
  pub attacks : 3 * factorial (target_count contests) ≤ budget

-- no size is left open
abbrev pub IsDecided : Answer → Type 0
IsDecided (Least proved lower) = Unit {0}
IsDecided (NoneWithin lower) = Unit {0}
IsDecided (Spent kept) = ⊥

-- Which parts a file must have, and that they fit its style.
use Rattle.std.specs.Prelude.{◌≡◌, ◌≤◌, ℕ, zero, suc, List, length, Option, Some, None}
use Rattle.lat_base.specs.declared.limits.TheConstants.{MOST_BALLOTS}
use Rattle.lat_base.specs.declared.contest.Contest.{Contest}
use Rattle.lat_base.specs.Part.{IsPart}
use Rattle.lat_base.specs.Shape.{target_count}
use Rattle.cert_types.specs.declared.proved.Proved.{Proved}
use Rattle.cert_types.specs.declared.verdict.Verdict.{Verdict}
use Rattle.cert_types.specs.declared.verdict.Verdict.TheVariants.{Least, NoneWithin, Bounds}
use Rattle.cert_types.specs.LowerPart.{LowerPart}

-- no number of a verdict is above 1,024, and no verdict says that no deck of 0 ballots is good
abbrev pub IsVerdict : Verdict → Type 0
IsVerdict (Least k) = k ≤ MOST_BALLOTS
IsVerdict (NoneWithin m) = (1 ≤ m) × (m ≤ MOST_BALLOTS)
IsVerdict (Bounds f) = f ≤ MOST_BALLOTS

-- the size of the lower part that shows that no deck of fewer ballots is good; none is needed for 0
abbrev pub size_below : ℕ → Option ℕ
size_below zero = None
size_below (suc k) = Some k

-- the size of the lower part that a verdict needs
abbrev pub lower_size : Verdict → Option ℕ
lower_size (Least k) = size_below k
lower_size (NoneWithin m) = Some m
lower_size (Bounds f) = size_below f

-- Least has a deck of so many ballots, NoneWithin none; a deck is one of the style's targets
abbrev pub DeckFits : List Contest → Verdict → Option Proved → Type 0
DeckFits contests (Least k) (Some proved) =
    (proved.deck.targets ≡ target_count contests) × (length proved.deck.ballots ≡ k)
DeckFits contests (NoneWithin m) None = Unit {0}
DeckFits contests (Bounds f) None = Unit {0}
DeckFits contests (Bounds f) (Some proved) = proved.deck.targets ≡ target_count contests
DeckFits contests verdict proved = ⊥

-- a lower part is there where a size is, of that size, over a part of the style
abbrev pub LowerFits : List Contest → Option ℕ → Option LowerPart → Type 0
LowerFits contests None None = Unit {0}
LowerFits contests (Some size) (Some lower) = IsPart contests lower.contests × (lower.size ≡ size)
LowerFits contests size lower = ⊥

-- The fields behind the head of a certificate, an open file and an evade file: their spellings, and
-- which values have one.
use Rattle.std.specs.Prelude.{◌≤◌, ◌∷◌, ◌++◌, [], ℕ, List, length, Option, Some, None}
use Rattle.lat_base.specs.declared.limits.TheConstants.{MOST_BALLOTS}
use Rattle.lat_base.specs.declared.contest.Contest.{Contest}
use Rattle.lat_base.specs.Shape.{target_count}
use Rattle.lat_ballots.specs.Deck.{Ballots}
use Rattle.evade_space.specs.declared.skipped.Skipped.{Skipped}
use Rattle.tree_core.specs.declared.node.Node.{Node}
use Rattle.cert_fields.specs.PartList.{part_text}
use Rattle.cert_fields.specs.Rows.{rows_text, IsDeckOf}
use Rattle.cert_fields.specs.Spelling.{u16_text}
use Rattle.cert_fields.specs.Trees.{tree_text, IsTreeOf, AnyImage, AnySkipped, AnyLabel, IsReason}
use Rattle.cert_fields.specs.Trees.{skipped_text, label_text, reason_text}
use Rattle.cert_types.specs.declared.license.License.{License}
use Rattle.cert_types.specs.declared.license.License.TheVariants.{Tree, Deck}
use Rattle.cert_types.specs.declared.proved.Proved.{Proved}
use Rattle.cert_types.specs.declared.verdict.Verdict.{Verdict}
use Rattle.cert_types.specs.declared.verdict.Verdict.TheVariants.{Least, NoneWithin, Bounds}
use Rattle.cert_types.specs.LowerPart.{LowerPart}

-- ---- spellings

-- a kind and a number
abbrev pub verdict_text : Verdict → List ℕ
verdict_text (Least k) = 1 ∷ u16_text k
verdict_text (NoneWithin m) = 2 ∷ u16_text m
verdict_text (Bounds f) = 3 ∷ u16_text f

-- the rows of a deck and an evade tree
abbrev pub attacked_text : Ballots → List (Node ℕ Skipped) → List ℕ
attacked_text deck tree = rows_text deck.ballots ++ tree_text u16_text skipped_text tree

abbrev pub proved_text : Proved → List ℕ
proved_text p = attacked_text p.deck p.robust

-- the number of ballots, and the deck with its tree
abbrev pub sized_text : Proved → List ℕ
sized_text p = u16_text (length p.deck.ballots) ++ proved_text p

-- a best deck, behind a flag
abbrev pub best_text : Option Proved → List ℕ
best_text None = 0 ∷ []
best_text (Some p) = 1 ∷ sized_text p

-- the deck of a certificate: that of Least, whose size the verdict has, or the best one of Bounds
abbrev pub deck_part_text : Verdict → Option Proved → List ℕ
deck_part_text (Least k) (Some p) = proved_text p
deck_part_text (Bounds f) best = best_text best
deck_part_text verdict proved = []

-- the contests of the part, and the tree; its size isn't written
abbrev pub lower_text : LowerPart → List ℕ
lower_text l = part_text l.contests ++ tree_text label_text reason_text l.tree

-- a lower part, where there is one
abbrev pub lower_part_text : Option LowerPart → List ℕ
lower_part_text None = []
lower_part_text (Some l) = lower_text l

-- a kind, and a deck tree or a deck with its evade tree
abbrev pub license_text : License → List ℕ
license_text (Tree tree) = 1 ∷ tree_text label_text reason_text tree
license_text (Deck deck tree) = 2 ∷ attacked_text deck tree

-- ---- which values have one

-- ballots of so many targets, at most 1,024, and one evade tree
pub record IsAttackedField (targets : ℕ) (deck : Ballots)
    (nodes : List (Node ℕ Skipped)) : Type 0 where
  pub rows : IsDeckOf targets (length deck.ballots) deck
  pub few : length deck.ballots ≤ MOST_BALLOTS
  pub tree : IsTreeOf AnyImage AnySkipped nodes

abbrev pub IsProvedField : List Contest → Proved → Type 0
IsProvedField contests p = IsAttackedField (target_count contests) p.deck p.robust

-- one deck tree, each of whose reasons is one
abbrev pub IsLowerField : LowerPart → Type 0
IsLowerField l = IsTreeOf AnyLabel IsReason l.tree

abbrev pub IsLicenseField : List Contest → License → Type 0
IsLicenseField contests (Tree tree) = IsTreeOf AnyLabel IsReason tree
IsLicenseField contests (Deck deck tree) = IsAttackedField (target_count contests) deck tree

-- How the rest of a certificate is read from each place where a stream can stand, as functions on
-- the bytes that are left. Each gives the parts of the whole certificate.
use Rattle.std.specs.Prelude.{ℕ, ◌==◌, ◌++◌, [], Bool, List, length, Option, Some, None, if◌then◌else◌}
use Rattle.lat_base.specs.declared.limits.TheConstants.{MOST_BALLOTS}
use Rattle.lat_base.specs.Shape.{target_count}
use Rattle.lat_ballots.specs.Deck.{Ballots}
use Rattle.close_rules.specs.declared.label.Label.{Label}
use Rattle.close_rules.specs.declared.reason.Reason.{Reason}
use Rattle.evade_space.specs.declared.skipped.Skipped.{Skipped}
use Rattle.tree_core.specs.declared.node.Node.{Node}
use Rattle.cert_fields.specs.Head.{Head, head_at}
use Rattle.cert_fields.specs.PartList.{part_at}
use Rattle.cert_fields.specs.Reading.{◌>>=◌, Reader, u8_at, u16_at, pair_at, made_at}
use Rattle.cert_fields.specs.Rows.{rows_at}
use Rattle.cert_fields.specs.TreeReading.{node_at, nodes_at, skipped_at, label_at, reason_at}
use Rattle.cert_types.specs.declared.proved.Proved.{Proved}
use Rattle.cert_types.specs.declared.verdict.Verdict.{Verdict}
use Rattle.cert_types.specs.declared.verdict.Verdict.TheVariants.{Least, NoneWithin, Bounds}
use Rattle.cert_types.specs.Fitting.{lower_size}
use Rattle.cert_types.specs.LowerPart.{LowerPart}
use Rattle.cert_format.specs.Files.{cert_magic}
use Rattle.cert_format.specs.Reading.{CertBody, limited_at, magic_at, verdict_at}
use Rattle.cert_format.specs.Reading.{cert_parts_at, file_at}

-- the parts of a certificate: its head and what stands behind it
abbrev pub Parts : Type 0
Parts = Head × CertBody

-- the whole certificate
abbrev pub whole_at : List ℕ → Option Parts
whole_at bytes = file_at cert_magic cert_parts_at bytes

-- ---- the front: all in front of the deck

-- the number of ballots of a best deck, behind the flag that there is one
abbrev pub flagged_by : ℕ → Reader (Option ℕ)
flagged_by tag bytes =
    if tag == 0 then Some (None, bytes)
    else if tag == 1 then made_at Some (limited_at 0 MOST_BALLOTS) bytes
    else None

-- the number of ballots of the deck, if there is one: that of Least stands in the verdict
abbrev pub ballots_at : Verdict → Reader (Option ℕ)
ballots_at (Least k) bytes = Some (Some k, bytes)
ballots_at (NoneWithin m) bytes = Some (None, bytes)
ballots_at (Bounds f) bytes = u8_at bytes >>= λ tag. flagged_by tag.0 tag.1

-- head, verdict, and the number of ballots of the deck, if there is one
unfoldable pub front_at : List ℕ → Option (((Head × Verdict) × Option ℕ) × List ℕ)
front_at bytes =
    magic_at cert_magic bytes
    >>= λ rest. pair_at (pair_at head_at (λ _. verdict_at)) (λ v. ballots_at v.1) rest

-- ---- behind the front

-- nothing is left
abbrev pub end_left : Head → Verdict → Option Proved → Option LowerPart → List ℕ → Option Parts
end_left head verdict proved lower bytes =
    if length bytes == 0 then Some (head, ((verdict, proved), lower)) else None

abbrev pub deck_node_at : Reader (Node Label Reason)
deck_node_at = node_at label_at reason_at

abbrev pub evade_node_at : Reader (Node ℕ Skipped)
evade_node_at = node_at u16_at skipped_at

-- the nodes of so many trees; each takes a byte
abbrev pub trees_at : {B R : Type 0} → Reader (Node B R) → ℕ → Reader (List (Node B R))
trees_at node wanted bytes = nodes_at node (length bytes) wanted bytes

-- the rest of a lower part's tree, behind these nodes of it
abbrev pub lower_tree_left : Head → Verdict → Option Proved → List ℕ → ℕ
    → List (Node Label Reason) → ℕ → List ℕ → Option Parts
lower_tree_left head verdict proved contests size nodes wanted bytes =
    trees_at deck_node_at wanted bytes >>= λ t.
    end_left head verdict proved
    (Some (record { contests = contests; size = size; tree = nodes ++ t.0 })) t.1

-- a lower part of that size
abbrev pub lower_left : Head → Verdict → Option Proved → ℕ → List ℕ → Option Parts
lower_left head verdict proved size bytes =
    part_at (length head.contests) bytes >>= λ c.
    lower_tree_left head verdict proved c.0 size [] 1 c.1

-- a lower part, if a size of one is needed
abbrev pub lower_part_left : Head → Verdict → Option Proved → Option ℕ → List ℕ → Option Parts
lower_part_left head verdict proved None bytes = end_left head verdict proved None bytes
lower_part_left head verdict proved (Some size) bytes = lower_left head verdict proved size bytes

-- the rest of a deck's tree, behind these nodes of it
abbrev pub robust_left : Head → Verdict → Ballots → List (Node ℕ Skipped) → ℕ → List ℕ
    → Option Parts
robust_left head verdict deck nodes wanted bytes =
    trees_at evade_node_at wanted bytes >>= λ t.
    lower_part_left head verdict (Some (record { deck = deck; robust = nodes ++ t.0 }))
    (lower_size verdict) t.1

-- so many more rows of a deck, behind these ballots of it
abbrev pub rows_left : Head → Verdict → List (List Bool) → ℕ → List ℕ → Option Parts
rows_left head verdict ballots k bytes =
    rows_at (target_count head.contests) k bytes >>= λ d.
    robust_left head verdict
    (record { targets = target_count head.contests; ballots = ballots ++ d.0 }) [] 1 d.1

-- a deck of that many ballots, if there is one
abbrev pub deck_left : Head → Verdict → Option ℕ → List ℕ → Option Parts
deck_left head verdict None bytes =
    lower_part_left head verdict None (lower_size verdict) bytes
deck_left head verdict (Some k) bytes = rows_left head verdict [] k bytes

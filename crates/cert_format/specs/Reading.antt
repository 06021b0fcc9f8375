-- How the fields behind the head and the whole files are read, as functions on lists. What is read
-- is said by the spellings alone.
use Rattle.std.specs.Prelude.{ℕ, ◌==◌, ◌&&◌, nat_le, Bool, List, length, take, drop, Option, Some}
use Rattle.std.specs.Prelude.{None, if◌then◌else◌}
use Rattle.std.specs.Str.{bytes_eq}
use Rattle.lat_base.specs.declared.limits.TheConstants.{MOST_BALLOTS}
use Rattle.lat_base.specs.declared.contest.Contest.{Contest}
use Rattle.lat_base.specs.Shape.{target_count}
use Rattle.lat_ballots.specs.Deck.{Ballots}
use Rattle.evade_space.specs.declared.skipped.Skipped.{Skipped}
use Rattle.tree_core.specs.declared.node.Node.{Node}
use Rattle.cert_fields.specs.Head.{Head, head_at}
use Rattle.cert_fields.specs.PartList.{part_at}
use Rattle.cert_fields.specs.Reading.{◌>>=◌, u8_at, u16_at, pair_at, tested_at, made_at}
use Rattle.cert_fields.specs.Rows.{rows_at}
use Rattle.cert_fields.specs.TreeReading.{tree_at, skipped_at, label_at, reason_at}
use Rattle.cert_types.specs.declared.license.License.{License}
use Rattle.cert_types.specs.declared.license.License.TheVariants.{Tree, Deck}
use Rattle.cert_types.specs.declared.proved.Proved.{Proved}
use Rattle.cert_types.specs.declared.verdict.Verdict.{Verdict}
use Rattle.cert_types.specs.declared.verdict.Verdict.TheVariants.{Least, NoneWithin, Bounds}
use Rattle.cert_types.specs.Fitting.{lower_size, size_below}
use Rattle.cert_types.specs.LowerPart.{LowerPart}

abbrev pub in_limits : ℕ → ℕ → ℕ → Bool
in_limits least most n = nat_le least n && nat_le n most

-- a number of two bytes that is in range
abbrev pub limited_at : ℕ → ℕ → List ℕ → Option (ℕ × List ℕ)
limited_at least most bytes = tested_at (in_limits least most) u16_at bytes

abbrev pub verdict_by : ℕ → List ℕ → Option (Verdict × List ℕ)
verdict_by tag bytes =
    if tag == 1 then made_at Least (limited_at 0 MOST_BALLOTS) bytes
    else if tag == 2 then made_at NoneWithin (limited_at 1 MOST_BALLOTS) bytes
    else if tag == 3 then made_at Bounds (limited_at 0 MOST_BALLOTS) bytes
    else None

unfoldable pub verdict_at : List ℕ → Option (Verdict × List ℕ)
verdict_at bytes = u8_at bytes >>= λ tag. verdict_by tag.0 tag.1

-- so many rows and an evade tree
abbrev pub attacked_at : ℕ → ℕ → List ℕ → Option ((Ballots × List (Node ℕ Skipped)) × List ℕ)
attacked_at targets k bytes =
    made_at (λ p. (record { targets = targets; ballots = p.0 }, p.1))
    (pair_at (rows_at targets k) (λ _. tree_at u16_at skipped_at)) bytes

unfoldable pub proved_at : ℕ → ℕ → List ℕ → Option (Proved × List ℕ)
proved_at targets k bytes =
    made_at (λ p. record { deck = p.0; robust = p.1 }) (attacked_at targets k) bytes

unfoldable pub sized_at : ℕ → List ℕ → Option (Proved × List ℕ)
sized_at targets bytes =
    made_at (λ p. p.1) (pair_at (limited_at 0 MOST_BALLOTS) (λ n. proved_at targets n)) bytes

abbrev pub best_by : ℕ → ℕ → List ℕ → Option (Option Proved × List ℕ)
best_by targets tag bytes =
    if tag == 0 then Some (None, bytes)
    else if tag == 1 then made_at Some (sized_at targets) bytes
    else None

unfoldable pub best_at : ℕ → List ℕ → Option (Option Proved × List ℕ)
best_at targets bytes = u8_at bytes >>= λ tag. best_by targets tag.0 tag.1

unfoldable pub deck_part_at : ℕ → Verdict → List ℕ → Option (Option Proved × List ℕ)
deck_part_at targets (Least k) bytes = made_at Some (proved_at targets k) bytes
deck_part_at targets (NoneWithin m) bytes = Some (None, bytes)
deck_part_at targets (Bounds f) bytes = best_at targets bytes

unfoldable pub lower_at : List Contest → ℕ → List ℕ → Option (LowerPart × List ℕ)
lower_at contests size bytes =
    made_at (λ p. record { contests = p.0; size = size; tree = p.1 })
    (pair_at (part_at (length contests)) (λ _. tree_at label_at reason_at)) bytes

unfoldable pub lower_part_at : List Contest → Option ℕ → List ℕ → Option (Option LowerPart × List ℕ)
lower_part_at contests None bytes = Some (None, bytes)
lower_part_at contests (Some size) bytes = made_at Some (lower_at contests size) bytes

abbrev pub license_by : ℕ → ℕ → ℕ → List ℕ → Option (License × List ℕ)
license_by targets from tag bytes =
    if tag == 1 then made_at Tree (tree_at label_at reason_at) bytes
    else if tag == 2 then made_at (λ p. Deck p.0 p.1) (attacked_at targets from) bytes
    else None

unfoldable pub license_at : ℕ → ℕ → List ℕ → Option (License × List ℕ)
license_at targets from bytes = u8_at bytes >>= λ tag. license_by targets from tag.0 tag.1

-- ---- behind a head

-- a verdict, its deck and its lower part
abbrev pub CertBody : Type 0
CertBody = (Verdict × Option Proved) × Option LowerPart

unfoldable pub cert_body_at : List Contest → List ℕ → Option (CertBody × List ℕ)
cert_body_at contests bytes =
    pair_at (pair_at verdict_at (deck_part_at (target_count contests)))
    (λ v. lower_part_at contests (lower_size v.0)) bytes

-- the greatest number of ballots and the number of the license, the best deck, the lower part and
-- the license
abbrev pub OpenBody : Type 0
OpenBody = (((ℕ × ℕ) × Option Proved) × Option LowerPart) × License

abbrev pub sizes_at : List ℕ → Option ((ℕ × ℕ) × List ℕ)
sizes_at bytes = pair_at (limited_at 1 MOST_BALLOTS) (λ max. limited_at 0 max) bytes

unfoldable pub open_body_at : List Contest → List ℕ → Option (OpenBody × List ℕ)
open_body_at contests bytes =
    pair_at (pair_at (pair_at sizes_at (λ _. best_at (target_count contests)))
    (λ v. lower_part_at contests (size_below v.0.1)))
    (λ v. license_at (target_count contests) v.0.0.1) bytes

-- ---- whole files

-- the bytes behind a file's first eight, where they are those
abbrev pub magic_at : List ℕ → List ℕ → Option (List ℕ)
magic_at magic bytes = if bytes_eq (take 8 bytes) magic then Some (drop 8 bytes) else None

-- a file: eight bytes, its parts, and nothing behind them
unfoldable pub file_at : {V : Type 0} → List ℕ → (List ℕ → Option (V × List ℕ)) → List ℕ → Option V
file_at magic parts bytes =
    magic_at magic bytes >>= λ rest. parts rest >>= λ x. if length x.1 == 0 then Some x.0 else None

abbrev pub cert_parts_at : List ℕ → Option ((Head × CertBody) × List ℕ)
cert_parts_at bytes = pair_at head_at (λ h. cert_body_at h.contests) bytes

abbrev pub open_parts_at : List ℕ → Option ((Head × OpenBody) × List ℕ)
open_parts_at bytes = pair_at head_at (λ h. open_body_at h.contests) bytes

abbrev pub evade_parts_at : List ℕ → Option ((Head × Proved) × List ℕ)
evade_parts_at bytes = pair_at head_at (λ h. sized_at (target_count h.contests)) bytes

-- How many bytes the fields of a certificate take at most.
use Rattle.std.proofs.Common.{◌≡◌, ℕ, ◌+◌, ◌*◌, ◌<◌, ◌≤◌, Bool, ◌&&◌, nat_le, List, [], ◌∷◌, ◌++◌, length, refl, ap, arith, length-append}
use Rattle.std.specs.List.{flat_map, AllByRecursion, list_all}
use Rattle.std.proofs.lemmas.Bool.{and_parts, leb-true}
use Rattle.std.proofs.lemmas.List.Concat.{flat_map-cons}
use Rattle.std.proofs.lemmas.List.Sums.{sum_by-cons}
use Rattle.lat_base.specs.declared.contest.Contest.{Contest}
use Rattle.lat_base.specs.declared.contest_names.ContestNames.{ContestNames}
use Rattle.lat_base.specs.Id.{is_id_byte}
use Rattle.lat_base.specs.Shape.{target_count}
use Rattle.close_rules.specs.declared.label.Label.{Label}
use Rattle.close_rules.specs.declared.label.Label.TheVariants.{Mark, Split}
use Rattle.close_rules.specs.declared.reason.Reason.{Reason}
use Rattle.close_rules.specs.declared.reason.Reason.TheVariants.{Order, Totals, Capacity, Blank, Over, Twin, ContestOrder, Pigeon, Columns, Same, Evade}
use Rattle.evade_space.specs.declared.skipped.Skipped.{Skipped}
use Rattle.tree_core.specs.declared.node.Node.{Node}
use Rattle.tree_core.specs.declared.node.Node.TheVariants.{Close, Fork, Open}
use Rattle.cert_fields.specs.Head.{Head, contest_text, contests_text, rules_text, head_text, IsNamed, AreNamed, IsHead}
use Rattle.cert_fields.specs.PartList.{part_text}
use Rattle.cert_fields.specs.Rows.{row_text}
use Rattle.cert_fields.specs.Spelling.{u16_text, id_text, IsText}
use Rattle.cert_fields.specs.Trees.{AnyLabel, AnyImage, AnySkipped, IsReason, IsNode, label_text, reason_text, skipped_text, node_text}
use Rattle.cert_fields.proofs.Marks.{row_long}

pairs : (s : List ℕ) → length (flat_map u16_text s) ≡ 2 * length s
pairs [] = refl
pairs (n ∷ s) = omega (arith, ap length (flat_map-cons u16_text n s), length-append (u16_text n) (flat_map u16_text s), pairs s)

-- ---- nodes

pub deck_node_size : (n : Node Label Reason) → IsNode AnyLabel IsReason n
    → (1 ≤ length (node_text label_text reason_text n))
    × (length (node_text label_text reason_text n) ≤ 516)
deck_node_size Open f = (omega arith, omega arith)
deck_node_size (Close (Order j)) f = (omega arith, omega arith)
deck_node_size (Close (Totals c)) f = (omega arith, omega arith)
deck_node_size (Close (Capacity c)) f = (omega arith, omega arith)
deck_node_size (Close Blank) f = (omega arith, omega arith)
deck_node_size (Close (Over c)) f = (omega arith, omega arith)
deck_node_size (Close (Twin c d)) f = (omega arith, omega arith)
deck_node_size (Close (ContestOrder c d)) f = (omega arith, omega arith)
deck_node_size (Close (Pigeon c)) f = (omega arith, omega arith)
deck_node_size (Close Columns) f = (omega arith, omega arith)
deck_node_size (Close (Same t u)) f = (omega arith, omega arith)
deck_node_size (Close (Evade s)) f = (omega arith, omega (arith, pairs s, f.few))
deck_node_size (Fork (Mark j t) n) f = (omega arith, omega arith)
deck_node_size (Fork (Split t x) n) f = (omega arith, omega arith)

pub evade_node_size : (n : Node ℕ Skipped) → IsNode AnyImage AnySkipped n
    → (1 ≤ length (node_text u16_text skipped_text n))
    × (length (node_text u16_text skipped_text n) ≤ 516)
evade_node_size Open f = (omega arith, omega arith)
evade_node_size (Close r) f = (omega arith, omega arith)
evade_node_size (Fork l n) f = (omega arith, omega arith)

-- ---- contests and a row

pub part_size : (cs : List ℕ) → length cs ≤ 128
    → (1 ≤ length (part_text cs)) × (length (part_text cs) ≤ 516)
part_size cs few = (omega arith, omega (arith, pairs cs, few, length-append (u16_text (length cs)) (flat_map u16_text cs)))

pub row_length : (targets : ℕ) (row : List Bool) → 0 < targets → targets ≤ 256
    → length row ≡ targets → (1 ≤ length (row_text row)) × (length (row_text row) ≤ 32)
row_length targets row some few e =
    (omega (arith, row_long row, e, some), omega (arith, row_long row, e, few))

-- ---- heads

id_size : (id : List ℕ) → IsText id → length (id_text id) ≤ 65
id_size id is =
    let limits = and_parts (nat_le 1 (length id) && nat_le (length id) 64) (list_all is_id_byte id) is in
    let most : length id ≤ 64 = leb-true (length id) 64 (and_parts (nat_le 1 (length id)) (nat_le (length id) 64) limits.0).1 in
    omega (arith, most)

ids_size : (ids : List (List ℕ)) → AllByRecursion IsText ids
    → length (flat_map id_text ids) ≤ 65 * length ids
ids_size [] h = omega arith
ids_size (id ∷ ids) h = omega (arith, ap length (flat_map-cons id_text id ids), length-append (id_text id) (flat_map id_text ids), id_size id h.0, ids_size ids h.1)

contest_size : (n : ContestNames) (c : Contest) → IsNamed n c
    → length (contest_text n c) ≤ 69 + 65 * c.targets
contest_size n c is =
    omega (
      arith,
      length-append (id_text n.id ++ u16_text c.limit) (u16_text c.targets ++ flat_map id_text n.targets),
      length-append (id_text n.id) (u16_text c.limit),
      length-append (u16_text c.targets) (flat_map id_text n.targets),
      id_size n.id is.id,
      ids_size n.targets is.targets,
      is.count,
    )

contests_size : (ns : List ContestNames) (cs : List Contest) → AreNamed ns cs
    → length (contests_text ns cs) ≤ 69 * length cs + 65 * target_count cs
contests_size [] [] h = omega arith
contests_size [] (c ∷ cs) h = absurd h
contests_size (n ∷ ns) [] h = absurd h
contests_size (n ∷ ns) (c ∷ cs) h =
    omega (arith, length-append (contest_text n c) (contests_text ns cs), contest_size n c h.0, contests_size ns cs h.1, sum_by-cons (λ (x : Contest). x.targets) c cs)

pub head_size : (h : Head) → IsHead h → length (head_text h) ≤ 25546
head_size h is =
    omega (
      arith,
      length-append (id_text h.names.style) (u16_text (length h.contests) ++ (contests_text h.names.contests h.contests ++ rules_text h.rules)),
      length-append (contests_text h.names.contests h.contests) (rules_text h.rules),
      id_size h.names.style is.style,
      contests_size h.names.contests h.contests is.named,
      is.shape.few,
      is.shape.few_targets,
    )

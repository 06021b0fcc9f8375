-- The spellings of labels, reasons and trees.
use Rattle.std.specs.Prelude.{◌∷◌, ◌++◌, [], ℕ, List, length}
use Rattle.std.specs.List.{flat_map, AllByRecursion}
use Rattle.cert_fields.specs.Spelling.{u16_text}
use Rattle.close_rules.specs.declared.label.Label.{Label}
use Rattle.close_rules.specs.declared.label.Label.TheVariants.{Mark, Split}
use Rattle.close_rules.specs.declared.reason.Reason.{Reason}
use Rattle.close_rules.specs.declared.reason.Reason.TheVariants.{Order, Totals, Capacity, Blank}
use Rattle.close_rules.specs.declared.reason.Reason.TheVariants.{Over, Twin, ContestOrder, Pigeon}
use Rattle.close_rules.specs.declared.reason.Reason.TheVariants.{Columns, Same, Evade}
use Rattle.evade_space.specs.declared.skipped.Skipped.{Skipped}
use Rattle.lat_misassign.specs.Sources.{AreSources}
use Rattle.tree_core.specs.declared.node.Node.{Node}
use Rattle.tree_core.specs.declared.node.Node.TheVariants.{Close, Fork, Open}
use Rattle.tree_core.specs.Reading.{IsTree}

abbrev pub label_text : Label → List ℕ
label_text (Mark j t) = 1 ∷ (u16_text j ++ u16_text t)
label_text (Split t x) = 2 ∷ (u16_text t ++ u16_text x)

-- a label is any
abbrev pub AnyLabel : Label → Type 0
AnyLabel l = Unit {0}

abbrev pub AnyImage : ℕ → Type 0
AnyImage n = Unit {0}

-- the one reason of an evade tree takes no byte
abbrev pub skipped_text : Skipped → List ℕ
skipped_text r = []

abbrev pub AnySkipped : Skipped → Type 0
AnySkipped r = Unit {0}

abbrev pub reason_text : Reason → List ℕ
reason_text (Order j) = 1 ∷ u16_text j
reason_text (Totals c) = 2 ∷ u16_text c
reason_text (Capacity c) = 3 ∷ u16_text c
reason_text Blank = 4 ∷ []
reason_text (Over c) = 5 ∷ u16_text c
reason_text (Twin c d) = 6 ∷ (u16_text c ++ u16_text d)
reason_text (ContestOrder c d) = 7 ∷ (u16_text c ++ u16_text d)
reason_text (Pigeon c) = 8 ∷ u16_text c
reason_text Columns = 9 ∷ []
reason_text (Same t u) = 10 ∷ (u16_text t ++ u16_text u)
reason_text (Evade sources) = 11 ∷ (u16_text (length sources) ++ flat_map u16_text sources)

-- what a reason must be
abbrev pub IsReason : Reason → Type 0
IsReason (Evade sources) = AreSources sources
IsReason reason = Unit {0}

-- a node, by the spellings of its label and its reason
abbrev pub node_text : {B R : Type 0} → (B → List ℕ) → (R → List ℕ) → Node B R → List ℕ
node_text label reason Open = 0 ∷ []
node_text label reason (Close r) = 1 ∷ reason r
node_text label reason (Fork l n) = 2 ∷ (label l ++ u16_text n)

abbrev pub IsNode : {B R : Type 0} → (B → Type 0) → (R → Type 0) → Node B R → Type 0
IsNode IsLabel IsWhy Open = Unit {0}
IsNode IsLabel IsWhy (Close r) = IsWhy r
IsNode IsLabel IsWhy (Fork l n) = IsLabel l

-- a tree: its nodes in preorder
abbrev pub tree_text : {B R : Type 0} → (B → List ℕ) → (R → List ℕ) → List (Node B R) → List ℕ
tree_text label reason nodes = flat_map (node_text label reason) nodes

pub record IsTreeOf {B R : Type 0} (IsLabel : B → Type 0) (IsWhy : R → Type 0)
    (nodes : List (Node B R)) : Type 0 where
  pub tree : IsTree nodes
  pub each : AllByRecursion (IsNode IsLabel IsWhy) nodes

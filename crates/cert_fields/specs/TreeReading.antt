-- Reading labels, reasons and trees, as functions on lists.
use Rattle.std.specs.Prelude.{ℕ, zero, suc, ◌+◌, List, [], ◌∷◌, length, Bool, Option, Some}
use Rattle.std.specs.Prelude.{None, is_none, nat_le, ◌==◌, ◌&&◌, if◌then◌else◌}
use Rattle.cert_fields.specs.Reading.{◌>>=◌, Reader, u8_at, u16_at, two_at, pair_at, made_at}
use Rattle.cert_fields.specs.Reading.{tested_at}
use Rattle.cert_fields.specs.Reading.{many_at}
use Rattle.close_rules.specs.declared.label.Label.{Label}
use Rattle.close_rules.specs.declared.label.Label.TheVariants.{Mark, Split}
use Rattle.close_rules.specs.declared.reason.Reason.{Reason}
use Rattle.close_rules.specs.declared.reason.Reason.TheVariants.{Order, Totals, Capacity, Blank}
use Rattle.close_rules.specs.declared.reason.Reason.TheVariants.{Over, Twin, ContestOrder, Pigeon}
use Rattle.close_rules.specs.declared.reason.Reason.TheVariants.{Columns, Same, Evade}
use Rattle.lat_misassign.specs.SourceFault.{source_fault}
use Rattle.evade_space.specs.declared.skipped.Skipped.{Skipped}
use Rattle.tree_core.specs.declared.node.Node.{Node}
use Rattle.tree_core.specs.declared.node.Node.TheVariants.{Close, Fork, Open}

abbrev pub label_by : ℕ → List ℕ → Option (Label × List ℕ)
label_by tag bytes =
    if tag == 1 then made_at (λ p. Mark p.0 p.1) two_at bytes
    else if tag == 2 then made_at (λ p. Split p.0 p.1) two_at bytes
    else None

unfoldable pub label_at : List ℕ → Option (Label × List ℕ)
label_at bytes = u8_at bytes >>= λ tag. label_by tag.0 tag.1

abbrev pub is_count : ℕ → Bool
is_count n = nat_le 1 n && nat_le n 256

-- a list of 1 to 256 sources, each of them once
abbrev pub sources_at : List ℕ → Option (List ℕ × List ℕ)
sources_at bytes =
    u16_at bytes >>= λ n.
    if is_count n.0
    then tested_at (λ s. is_none (source_fault s)) (many_at u16_at n.0) n.1 else None

abbrev pub reason_by : ℕ → List ℕ → Option (Reason × List ℕ)
reason_by tag bytes =
    if tag == 1 then made_at Order u16_at bytes
    else if tag == 2 then made_at Totals u16_at bytes
    else if tag == 3 then made_at Capacity u16_at bytes
    else if tag == 4 then Some (Blank, bytes)
    else if tag == 5 then made_at Over u16_at bytes
    else if tag == 6 then made_at (λ p. Twin p.0 p.1) two_at bytes
    else if tag == 7 then made_at (λ p. ContestOrder p.0 p.1) two_at bytes
    else if tag == 8 then made_at Pigeon u16_at bytes
    else if tag == 9 then Some (Columns, bytes)
    else if tag == 10 then made_at (λ p. Same p.0 p.1) two_at bytes
    else if tag == 11 then made_at Evade sources_at bytes
    else None

unfoldable pub reason_at : List ℕ → Option (Reason × List ℕ)
reason_at bytes = u8_at bytes >>= λ tag. reason_by tag.0 tag.1

abbrev pub skipped_at : List ℕ → Option (Skipped × List ℕ)
skipped_at bytes = Some (record {}, bytes)

abbrev pub node_by : {B R : Type 0} → Reader B → Reader R → ℕ → Reader (Node B R)
node_by label reason tag bytes =
    if tag == 0 then Some (Open, bytes)
    else if tag == 1 then made_at Close reason bytes
    else if tag == 2 then made_at (λ p. Fork p.0 p.1) (pair_at label (λ _. u16_at)) bytes
    else None

unfoldable pub node_at : {B R : Type 0} → Reader B → Reader R → Reader (Node B R)
node_at label reason bytes = u8_at bytes >>= λ tag. node_by label reason tag.0 tag.1

abbrev pub kids_of : {B R : Type 0} → Node B R → ℕ
kids_of (Fork l n) = n
kids_of (Close r) = 0
kids_of Open = 0

-- how many trees are still wanted after some nodes, where so many are before; none where a node
-- comes too many
abbrev pub wanted_after : {B R : Type 0} → ℕ → List (Node B R) → Option ℕ
wanted_after wanted [] = Some wanted
wanted_after zero (n ∷ ns) = None
wanted_after (suc wanted) (n ∷ ns) = wanted_after (wanted + kids_of n) ns

-- the nodes of so many trees, where at most `fuel` nodes are read
abbrev pub nodes_at : {B R : Type 0} → Reader (Node B R) → ℕ → ℕ → Reader (List (Node B R))
nodes_at node fuel zero bytes = Some ([], bytes)
nodes_at node zero (suc wanted) bytes = None
nodes_at node (suc fuel) (suc wanted) bytes =
    node bytes >>= λ n. nodes_at node fuel (wanted + kids_of n.0) n.1
    >>= λ others. Some (n.0 ∷ others.0, others.1)

-- one tree; each of its nodes takes a byte
unfoldable pub tree_at : {B R : Type 0} → Reader B → Reader R → Reader (List (Node B R))
tree_at label reason bytes = nodes_at (node_at label reason) (length bytes) 1 bytes

-- How the check of a tree stands when only the front of its nodes was read.
use Rattle.std.specs.Prelude.{◌≡◌, ◌<◌, ℕ, Bool, false, Option, Some, None, List, [], ◌∷◌, length, reverse}
use Rattle.std.specs.List.{range_with_len}
use Rattle.tree_core.specs.declared.node.Node.{Node}
use Rattle.tree_core.specs.declared.walk.Entry.{Entry}
use Rattle.tree_core.specs.Steps.{Steps}
use Rattle.tree_core.specs.Checks.{NodeHolds}
use Rattle.tree_core.specs.Places.{ahead, EachPlace, IsFirstFault}
use Rattle.tree_core.specs.Walk.{Lands, places_of}
use Rattle.cert_fields.specs.TreeReading.{wanted_after}
use Rattle.cert_types.specs.declared.part.Part.{Part}
use Rattle.cert_stream.specs.declared.walk.Walk.{Walk}
use Rattle.cert_stream.specs.declared.walk.Checking.{Checking}
use Rattle.cert_stream.specs.declared.walk.Checking.TheVariants.{On, Off}

-- there is one Fork for each entry of the way, and entry number i is at place i
pub record IsStack {B R : Type 0} (forks : List (Node B R)) (way : List Entry) : Type 0 where
  pub long : length forks ≡ length way
  pub places : places_of way ≡ range_with_len 0 (length way)

-- a move has come to the first of the states to come, or back to the root
abbrev pub ComesTo : {S B R : Type 0} → Steps S B R → (S → Type 0) → List (Node B R) → S
    → List Entry → S → List S → Type 0
ComesTo steps own forks root way here to_come =
    (found : Bool) × Lands steps own forks root way here found to_come

-- these nodes hold, and the walk over them has come to the state of the next one; of the nodes only
-- the Forks on the way to it are there
pub record Stood {S B R : Type 0} (steps : Steps S B R) (own : S → Type 0) (root : S)
    (nodes forks : List (Node B R)) (way : List Entry) (here : S) : Type 0 where
  pub each : EachPlace steps root nodes (λ _ s node. NodeHolds false steps s node)
  pub comes : ComesTo steps own forks root (reverse way) here (ahead steps (root ∷ []) nodes)
  pub stack : IsStack forks way

-- after these nodes a tree is still wanted, and they are the front of one that the walk is in
pub record IsOpenWalk {W S B R : Type 0} (steps : Steps S B R) (own : S → Type 0)
    (walk : Walk W S B R) (root : S) (nodes : List (Node B R)) (wanted : ℕ) : Type 0 where
  pub wants : wanted_after 1 nodes ≡ Some wanted
  pub some : 0 < wanted
  pub stood : Stood steps own root nodes walk.forks.items walk.way.items walk.state
  pub seen : walk.seen ≡ length nodes

-- a walk is in a tree of its own space
abbrev pub OpenAt : {W S B R : Type 0} → (W → Steps S B R) → (W → S → Type 0) → Walk W S B R
    → Type 0
OpenAt {W} {S} {B} {R} steps own walk =
    (root : S) × (nodes : List (Node B R)) × (wanted : ℕ)
    × IsOpenWalk (steps walk.space) (own walk.space) walk root nodes wanted

-- the check of the front of a tree: it goes on, or has met the first node that doesn't hold
abbrev pub Follows : {W S B R : Type 0} → Steps S B R → (S → Type 0) → W → S → Part
    → List (Node B R) → Checking W S B R → Type 0
Follows steps own space root part nodes (On walk) =
    (walk.value.space ≡ space)
    × Stood steps own root nodes walk.value.forks.items walk.value.way.items walk.value.state
    × (walk.value.seen ≡ length nodes)
Follows steps own space root part nodes (Off fault i) =
    (fault ≡ part) × IsFirstFault false steps root nodes i

-- the first fault, if there is one
abbrev pub fault_of : {W S B R : Type 0} → Checking W S B R → Option (Part × ℕ)
fault_of (On walk) = None
fault_of (Off part i) = Some (part, i)

-- The check of the front of a tree, one node more at a time, and of a tree that was read whole.
use Rattle.std.proofs.Common.{◌≡◌, inl, inr, ℕ, ◌+◌, ◌-◌, ◌<◌, ◌≤◌, false, Box, Global, List, [], ◌∷◌, ◌++◌, Option, Some, refl, sym, subst}
use Rattle.std.proofs.lemmas.Option.{same_Some}
use Rattle.lat_base.specs.declared.contest.Contest.{Contest}
use Rattle.lat_base.specs.Part.{IsPart, part}
use Rattle.lat_base.specs.Rules.{RuleSet}
use Rattle.lat_base.specs.Shape.{target_count}
use Rattle.lat_ballots.specs.Deck.{Ballots}
use Rattle.close_rules.specs.declared.label.Label.{Label}
use Rattle.close_rules.specs.declared.reason.Reason.{Reason}
use Rattle.deck_space.specs.Steps.{deck_steps}
use Rattle.deck_space.specs.declared.decks.Decks.{Decks}
use Rattle.deck_state.specs.PartialDeck.{PartialDeck}
use Rattle.deck_state.specs.Trail.{IsPartial}
use Rattle.evade_space.specs.declared.skipped.Skipped.{Skipped}
use Rattle.evade_space.specs.PartialMisassignment.{PartialMisassignment}
use Rattle.evade_space.specs.Sought.{Sought, own_sought, start}
use Rattle.evade_space.specs.Steps.{evade_steps, IsEvadeState}
use Rattle.tree_core.specs.declared.node.Node.{Node}
use Rattle.tree_core.specs.Places.{IsFirstFault}
use Rattle.tree_core.specs.Steps.{Steps}
use Rattle.tree_core.proofs.Holding.{checks_from_each}
use Rattle.cert_fields.specs.TreeReading.{kids_of, wanted_after}
use Rattle.cert_fields.proofs.TreeBytes.{tree-wanted}
use Rattle.cert_types.specs.declared.part.Part.{Part}
use Rattle.cert_types.specs.declared.part.Part.TheVariants as parts
use Rattle.cert_types.specs.declared.proved.Proved.{Proved}
use Rattle.cert_types.specs.Holding.{IsDeckFault, IsPartsFault}
use Rattle.cert_types.specs.Lower.{lower_root}
use Rattle.cert_types.specs.LowerPart.{LowerPart}
use Rattle.cert_check.specs.Answers.{IsDeckAnswer, ArePartsAnswer}
use Rattle.cert_stream.specs.declared.walk.Checking.{Checking}
use Rattle.cert_stream.specs.declared.walk.Checking.TheVariants.{On, Off}
use Rattle.cert_stream.specs.declared.walk.Walk.{Walk}
use Rattle.cert_stream.specs.Phases.{IsEvadeCheck, IsDeckCheck}
use Rattle.cert_stream.specs.Stands.{RobustSoFar, LowerSoFar, lower_of}
use Rattle.cert_stream.specs.Walks.{Stood, IsOpenWalk, OpenAt, Follows, fault_of}
use Rattle.cert_stream.proofs.Nodes.{wanted_more}
use Rattle.cert_stream.proofs.Walked.{fault_grows}

-- what the check of one more node does
abbrev pub ChecksOn : {W S B R : Type 0} → (W → Steps S B R) → (W → S → Type 0) → Part → Node B R → Checking W S B R → Checking W S B R → Type 0
ChecksOn {W} {S} {B} {R} steps own part node check later =
    (walk : Box (Walk W S B R) Global) → check ≡ On walk → let space = walk.value.space in
    (root : S) (nodes : List (Node B R)) (wanted : ℕ)
    → IsOpenWalk (steps space) (own space) walk.value root nodes wanted
    → Follows (steps space) (own space) space root part (nodes ++ node ∷ []) later

abbrev pub StaysOff : {W S B R : Type 0} → Checking W S B R → Checking W S B R → Type 0
StaysOff check later = (part : Part) (i : ℕ) → check ≡ Off part i → later ≡ Off part i

abbrev EvadeCheck : Type 0
EvadeCheck = Checking Sought PartialMisassignment ℕ Skipped

abbrev DeckCheck : Type 0
DeckCheck = Checking Decks PartialDeck Label Reason

-- ---- what a check keeps of itself

pub evade_walk : (check : EvadeCheck) (wanted : ℕ) → IsEvadeCheck check wanted
    → (walk : Box (Walk Sought PartialMisassignment ℕ Skipped) Global) → check ≡ On walk
    → OpenAt evade_steps IsEvadeState walk.value
evade_walk (Off p i) wanted h walk e = absurd (cc)
evade_walk (On w) wanted h walk e =
    let same : w ≡ walk = cc in
    subst (λ (x : Box (Walk Sought PartialMisassignment ℕ Skipped) Global). OpenAt evade_steps IsEvadeState x.value) same (h.0, h.1, wanted, h.2)

pub deck_walk : (check : DeckCheck) (wanted : ℕ) → IsDeckCheck check wanted
    → (walk : Box (Walk Decks PartialDeck Label Reason) Global) → check ≡ On walk
    → OpenAt (λ _. deck_steps) (λ _. IsPartial) walk.value
deck_walk (Off p i) wanted h walk e = absurd (cc)
deck_walk (On w) wanted h walk e =
    let same : w ≡ walk = cc in
    subst (λ (x : Box (Walk Decks PartialDeck Label Reason) Global). OpenAt (λ _. deck_steps) (λ _. IsPartial) x.value) same (h.0, h.1, wanted, h.2)

pub evade_check_next : (part : Part) (check later : EvadeCheck) (node : Node ℕ Skipped)
    (wanted after : ℕ) → ChecksOn evade_steps IsEvadeState part node check later
    → StaysOff check later
    → after ≡ wanted - 1 + kids_of node → 0 < after → IsEvadeCheck check wanted
    → IsEvadeCheck later after
evade_check_next part (Off p i) later node wanted after on off is some h = subst (λ (c : EvadeCheck). IsEvadeCheck c after) (sym (off p i refl)) tt
evade_check_next part (On walk) later node wanted after on off is some h = by_later later (on walk refl h.0 h.1 wanted h.2)
  where
    by_later : (later : EvadeCheck)
        → Follows (evade_steps walk.value.space) (IsEvadeState walk.value.space) walk.value.space
        h.0 part (h.1 ++ node ∷ []) later → IsEvadeCheck later after
    by_later (Off p i) f = tt
    by_later (On w) f = (
      h.0,
      h.1 ++ node ∷ [],
      record {
        wants = rw is (wanted_more h.1 1 wanted node h.2.wants h.2.some);
        some = some;
        stood = subst (λ (s : Sought). Stood (evade_steps s) (IsEvadeState s) h.0 (h.1 ++ node ∷ []) w.value.forks.items w.value.way.items w.value.state) (sym f.0) f.1;
        seen = f.2;
      },
    )

pub deck_check_next : (part : Part) (check later : DeckCheck) (node : Node Label Reason)
    (wanted after : ℕ) → ChecksOn (λ _. deck_steps) (λ _. IsPartial) part node check later
    → StaysOff check later
    → after ≡ wanted - 1 + kids_of node → 0 < after → IsDeckCheck check wanted
    → IsDeckCheck later after
deck_check_next part (Off p i) later node wanted after on off is some h = subst (λ (c : DeckCheck). IsDeckCheck c after) (sym (off p i refl)) tt
deck_check_next part (On walk) later node wanted after on off is some h = by_later later (on walk refl h.0 h.1 wanted h.2)
  where
    by_later : (later : DeckCheck)
        → Follows deck_steps IsPartial walk.value.space h.0 part (h.1 ++ node ∷ []) later
        → IsDeckCheck later after
    by_later (Off p i) f = tt
    by_later (On w) f = (h.0, h.1 ++ node ∷ [], record { wants = rw is (wanted_more h.1 1 wanted node h.2.wants h.2.some); some = some; stood = f.1; seen = f.2 })

-- ---- a deck's tree

module _ (contests : List Contest) (rules : RuleSet) (deck : Ballots) where
  abbrev with_tree : List (Node ℕ Skipped) → Proved
  with_tree nodes = record { deck = deck; robust = nodes }

  abbrev sought : Sought
  sought = own_sought contests deck.ballots

  deck_fault_grows : (nodes : List (Node ℕ Skipped)) (node : Node ℕ Skipped) (part : Part) (i : ℕ)
      → IsDeckFault contests rules (with_tree nodes) part i
      → IsDeckFault contests rules (with_tree (nodes ++ node ∷ [])) part i
  deck_fault_grows nodes node parts.Deck i h = h
  deck_fault_grows nodes node parts.Rules i h = h
  deck_fault_grows nodes node parts.Robust i h = (h.0, fault_grows (evade_steps sought) (start sought) nodes (node ∷ []) i h.1)
  deck_fault_grows nodes node parts.Lower i h = h
  deck_fault_grows nodes node parts.License i h = h

  pub robust_next : (nodes : List (Node ℕ Skipped)) (check later : EvadeCheck)
      (node : Node ℕ Skipped) (wanted : ℕ)
      → ChecksOn evade_steps IsEvadeState parts.Robust node check later → StaysOff check later
      → wanted_after 1 nodes ≡ Some wanted → 0 < wanted
      → RobustSoFar contests rules deck nodes check
      → RobustSoFar contests rules deck (nodes ++ node ∷ []) later
  robust_next nodes (Off p i) later node wanted on off wants some h =
      subst (λ (c : EvadeCheck). RobustSoFar contests rules deck (nodes ++ node ∷ []) c) (sym (off p i refl)) (deck_fault_grows nodes node p i h)
  robust_next nodes (On walk) later node wanted on off wants some h = by_later later (subst (λ (s : Sought). Follows (evade_steps s) (IsEvadeState s) s (start sought) parts.Robust (nodes ++ node ∷ []) later) h.1.0 followed)
    where
      followed : Follows (evade_steps walk.value.space) (IsEvadeState walk.value.space)
          walk.value.space (start sought) parts.Robust (nodes ++ node ∷ []) later
      followed = on walk refl (start sought) nodes wanted (record {
        wants = wants;
        some = some;
        stood = subst (λ (s : Sought). Stood (evade_steps s) (IsEvadeState s) (start sought) nodes walk.value.forks.items walk.value.way.items walk.value.state) (sym h.1.0) h.1.1;
        seen = h.1.2;
      })

      by_later : (later : EvadeCheck)
          → Follows (evade_steps sought) (IsEvadeState sought) sought (start sought) parts.Robust
          (nodes ++ node ∷ []) later → RobustSoFar contests rules deck (nodes ++ node ∷ []) later
      by_later (On w) f = (h.0, f)
      by_later (Off p i) f = subst (λ (q : Part). IsDeckFault contests rules (with_tree (nodes ++ node ∷ [])) q i) (sym f.0) (h.0, f.1)

  pub robust_ends : (nodes : List (Node ℕ Skipped)) (check : EvadeCheck)
      → deck.targets ≡ target_count contests → wanted_after 1 nodes ≡ Some 0
      → RobustSoFar contests rules deck nodes check
      → IsDeckAnswer contests rules (Some (with_tree nodes)) (fault_of check)
  robust_ends nodes (Off p i) targets wants h = (with_tree nodes, refl, h)
  robust_ends nodes (On walk) targets wants h =
      let tree = tree-wanted nodes wants in
      record { targets = targets; obeys = h.0; robust = record { lists = tree; checks = checks_from_each (evade_steps sought) false (start sought) nodes tree h.1.1.each } }

-- ---- a lower part's tree

module _ (contests : List Contest) (rules : RuleSet) (proved : Option Proved) (chosen : List ℕ) (size : ℕ) where
  abbrev root : PartialDeck
  root = lower_root contests rules (lower_of chosen size [])

  parts_fault_grows : (nodes : List (Node Label Reason)) (node : Node Label Reason) (part : Part)
      (i : ℕ) → IsPartsFault contests rules proved (Some (lower_of chosen size nodes)) part i
      → IsPartsFault contests rules proved (Some (lower_of chosen size (nodes ++ node ∷ []))) part i
  parts_fault_grows nodes node part i (inl fault) = inl fault
  parts_fault_grows nodes node part i (inr (holds, l, e, named, fault)) =
      let same : lower_of chosen size nodes ≡ l = same_Some (lower_of chosen size nodes) l e in
      let own : IsFirstFault false deck_steps root nodes i = subst (λ (x : LowerPart). IsFirstFault false deck_steps (lower_root contests rules x) x.tree i) (sym same) fault in
      inr (holds, lower_of chosen size (nodes ++ node ∷ []), refl, named, fault_grows deck_steps root nodes (node ∷ []) i own)

  pub lower_next : (nodes : List (Node Label Reason)) (check later : DeckCheck)
      (node : Node Label Reason) (wanted : ℕ)
      → ChecksOn (λ _. deck_steps) (λ _. IsPartial) parts.Lower node check later
      → StaysOff check later
      → wanted_after 1 nodes ≡ Some wanted → 0 < wanted
      → LowerSoFar contests rules proved chosen size nodes check
      → LowerSoFar contests rules proved chosen size (nodes ++ node ∷ []) later
  lower_next nodes (Off p i) later node wanted on off wants some h =
      subst (λ (c : DeckCheck). LowerSoFar contests rules proved chosen size (nodes ++ node ∷ []) c) (sym (off p i refl)) (parts_fault_grows nodes node p i h)
  lower_next nodes (On walk) later node wanted on off wants some h =
      by_later later (on walk refl root nodes wanted (record { wants = wants; some = some; stood = h.1.1; seen = h.1.2 }))
    where
      by_later : (later : DeckCheck)
          → Follows deck_steps IsPartial walk.value.space root parts.Lower (nodes ++ node ∷ []) later
          → LowerSoFar contests rules proved chosen size (nodes ++ node ∷ []) later
      by_later (On w) f = (h.0, (refl, f.1, f.2))
      by_later (Off p i) f = inr (h.0, lower_of chosen size (nodes ++ node ∷ []), refl, f.0, f.1)

  pub lower_ends : (nodes : List (Node Label Reason)) (check : DeckCheck) → IsPart contests chosen
      → size ≤ 1024 → wanted_after 1 nodes ≡ Some 0
      → LowerSoFar contests rules proved chosen size nodes check
      → ArePartsAnswer contests rules proved (Some (lower_of chosen size nodes)) (fault_of check)
  lower_ends nodes (Off p i) is few wants h = h
  lower_ends nodes (On walk) is few wants h =
      let tree = tree-wanted nodes wants in
      record { deck_holds = h.0; lower_holds = record { is_part = is; few = few; lists = tree; checks = checks_from_each deck_steps false root nodes tree h.1.1.each } }

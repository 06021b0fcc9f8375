-- Trees that show that a deck is robust.
use Rattle.std.proofs.Common.{◌≡◌, ◌≢◌, ◌⊎◌, inl, inr, ℕ, Bool, true, false, List, refl, ap, sym, subst, ◌∙◌}
use Rattle.std.specs.Str.{bytes_eq}
use Rattle.std.proofs.lemmas.Slice.Eq.{bytes_eq-Decides}
use Rattle.lat_base.specs.declared.contest.Contest.{Contest}
use Rattle.lat_base.specs.Goodness.{IsRobust}
use Rattle.lat_base.specs.Misassignment.{identity}
use Rattle.lat_base.specs.Shape.{target_count}
use Rattle.evade_space.specs.PartialMisassignment.{PartialMisassignment}
use Rattle.evade_space.specs.Sought.{Sought, own_sought, start}
use Rattle.evade_space.specs.declared.skipped.Skipped.{Skipped}
use Rattle.evade_space.specs.Steps.{IsSolution, evade_steps}
use Rattle.evade_space.proofs.Start.{nothing_at}
use Rattle.tree_core.specs.declared.node.Node.{Node}
use Rattle.tree_core.specs.Places.{IsFirstFault}
use Rattle.cert_types.specs.Proved.{IsRobustFault}

-- two lists are equal or not
alike : (a b : List ℕ) → (a ≡ b) ⊎ (a ≢ b)
alike a b = by_test (bytes_eq a b) refl
  where
    by_test : (x : Bool) → bytes_eq a b ≡ x → (a ≡ b) ⊎ (a ≢ b)
    by_test true e = inl ((bytes_eq-Decides a b).0 e)
    by_test false e = inr (λ same. cc ((bytes_eq-Decides a b).1 same, e))

-- where nothing evades a deck, it is robust
is_robust : (contests : List Contest) (deck : List (List Bool))
    → ((v : List ℕ) → IsSolution (own_sought contests deck) (start (own_sought contests deck)) v
    → ⊥)
    → IsRobust contests deck
is_robust contests deck none s is same = elim (alike s (identity (target_count contests))) [
  | inl e ↦ e
  | inr ne ↦ absurd (none s (record { is = is; extends = λ u t e. absurd (nothing_at (target_count contests) u t e); other = ne; report = same }))
]

-- the same in the deck's own space, at its start
pub robust_there : (contests : List Contest) (deck : List (List Bool)) (space : Sought)
    (state : PartialMisassignment) → space ≡ own_sought contests deck → state ≡ start space
    → ((v : List ℕ) → IsSolution space state v → ⊥) → IsRobust contests deck
robust_there contests deck space state is begins none =
    let own = own_sought contests deck in
    let at : state ≡ start own = begins ∙ ap start is in
    let moved : (v : List ℕ) → IsSolution own (start own) v → IsSolution space state v =
    λ v solved. subst (λ (x : Sought). IsSolution x state v) (sym is) (subst (λ (y : PartialMisassignment). IsSolution own y v) (sym at) solved) in
    is_robust contests deck (λ v solved. none v (moved v solved))

-- and a first fault there is one of the deck's tree
pub fault_there : (open_holds : Bool) (contests : List Contest) (deck : List (List Bool))
    (space : Sought) (state : PartialMisassignment) (nodes : List (Node ℕ Skipped)) (i : ℕ)
    → space ≡ own_sought contests deck → state ≡ start space
    → IsFirstFault open_holds (evade_steps space) state nodes i
    → IsRobustFault open_holds contests deck nodes i
fault_there open_holds contests deck space state nodes i is begins fault =
    let own = own_sought contests deck in
    let at : state ≡ start own = begins ∙ ap start is in
    subst (λ (y : PartialMisassignment). IsFirstFault open_holds (evade_steps own) y nodes i) at
    (subst (λ (x : Sought). IsFirstFault open_holds (evade_steps x) state nodes i) is fault)

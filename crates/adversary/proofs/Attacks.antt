-- Decks that nothing evades.
use Rattle.std.proofs.Common.{◌≡◌, ◌≢◌, ◌<◌, ◌*◌, ◌⊎◌, inl, inr, ℕ, Bool, true, false, Some, None, List, length, refl, ap, sym, subst, ◌∙◌}
use Rattle.std.specs.Prelude.{if◌then◌else◌}
use Rattle.std.specs.Str.{bytes_eq}
use Rattle.std.proofs.lemmas.Slice.Eq.{bytes_eq-Decides}
use Rattle.lat_base.specs.declared.contest.Contest.{Contest}
use Rattle.lat_base.specs.Shape.{target_count}
use Rattle.lat_base.specs.Misassignment.{identity}
use Rattle.lat_base.specs.Goodness.{IsRobust}
use Rattle.evade_space.specs.Sources.{is_free}
use Rattle.evade_space.specs.PartialMisassignment.{PartialMisassignment}
use Rattle.evade_space.specs.Sought.{Sought, Evades, own_sought, start}
use Rattle.evade_space.specs.Kids.{kids_of}
use Rattle.evade_space.specs.Steps.{IsEvadeState, IsSolution, evade_steps}
use Rattle.evade_space.specs.Trees.{IsRobustTree, IsOpenAttack, factorial}
use Rattle.tree_search.specs.Outcome.{IsOpenTree}
use Rattle.evade_space.proofs.AttackBounds.{open_attack_few}
use Rattle.tree_core.specs.declared.node.Node.{Node}
use Rattle.tree_core.specs.Reading.{tree_of, IsTree}
use Rattle.tree_core.specs.Checks.{Checks}
use Rattle.evade_space.specs.declared.skipped.Skipped.{Skipped}
use Rattle.evade_space.proofs.Start.{nothing_at}

-- an image without a source is an allowed label
pub allowed_at : (sought : Sought) (s : PartialMisassignment) (u : ℕ) → is_free s.sources u ≡ true
    → (n : ℕ) × ((evade_steps sought).arity s u ≡ Some n)
allowed_at sought s u h = (length (kids_of sought s.sources u), ap (λ (b : Bool). if b then Some (length (kids_of sought s.sources u)) else None) h)

-- two lists are equal or not
alike : (a b : List ℕ) → (a ≡ b) ⊎ (a ≢ b)
alike a b = by_test (bytes_eq a b) refl
  where
    by_test : (x : Bool) → bytes_eq a b ≡ x → (a ≡ b) ⊎ (a ≢ b)
    by_test true e = inl ((bytes_eq-Decides a b).0 e)
    by_test false e = inr (λ same. cc ((bytes_eq-Decides a b).1 same, e))

-- where nothing is found the deck is robust
pub is_robust : (contests : List Contest) (deck : List (List Bool))
    → ((v : List ℕ) → IsSolution (own_sought contests deck) (start (own_sought contests deck)) v
    → ⊥) → IsRobust contests deck
is_robust contests deck none s is same = elim (alike s (identity (target_count contests))) [
  | inl e ↦ e
  | inr ne ↦ absurd (none s (record { is = is; extends = λ u t e. absurd (nothing_at (target_count contests) u t e); other = ne; report = same }))
]

-- a tree of the deck's own space that checks
pub closed : (contests : List Contest) (deck : List (List Bool)) (space : Sought)
    (state : PartialMisassignment) (tree : List (Node ℕ Skipped)) → space ≡ own_sought contests deck
    → state ≡ start space
    → IsTree tree → Checks (evade_steps space) state (tree_of tree)
    → ((v : List ℕ) → IsSolution space state v → ⊥)
    → IsRobust contests deck × IsRobustTree contests deck tree
closed contests deck space state tree is begins lists checks none =
    let at : state ≡ start (own_sought contests deck) = begins ∙ ap start is in (
      is_robust contests deck (λ v solved. none v (subst (λ (x : Sought). IsSolution x state v) (sym is) (subst (λ (y : PartialMisassignment). IsSolution (own_sought contests deck) y v) (sym at) solved))),
      record {
        lists = lists;
        checks = subst (λ (y : PartialMisassignment). Checks (evade_steps (own_sought contests deck)) y (tree_of tree)) at (subst (λ (x : Sought). Checks (evade_steps x) state (tree_of tree)) is checks);
      },
    )

-- an open tree of the deck's own space, and what its nodes can't be as many as
pub spent : (contests : List Contest) (deck : List (List Bool)) (space : Sought)
    (state : PartialMisassignment) (budget : ℕ) (tree : List (Node ℕ Skipped))
    → space ≡ own_sought contests deck → state ≡ start space
    → IsEvadeState space state → IsOpenTree (evade_steps space) state budget tree
    → IsOpenAttack contests deck budget tree × (budget < 3 * factorial (target_count contests))
spent contests deck space state budget tree is begins own left_open =
    let at : state ≡ start (own_sought contests deck) = begins ∙ ap start is in
    let tree_is = subst (λ (y : PartialMisassignment). IsOpenTree (evade_steps (own_sought contests deck)) y budget tree) at (subst (λ (x : Sought). IsOpenTree (evade_steps x) state budget tree) is left_open) in
    let own_is = subst (IsEvadeState (own_sought contests deck)) at (subst (λ (x : Sought). IsEvadeState x state) is own) in
    (tree_is, open_attack_few (own_sought contests deck) budget tree own_is tree_is)

-- what is found in the deck's own space evades it
pub found : (contests : List Contest) (deck : List (List Bool)) (space : Sought)
    (state : PartialMisassignment) (s v : List ℕ) → space ≡ own_sought contests deck
    → state ≡ start space
    → IsSolution space state v → s ≡ v → Evades contests deck s
found contests deck space state s v is begins solved shown =
    let own = subst (λ (y : PartialMisassignment). IsSolution (own_sought contests deck) y v) (begins ∙ ap start is) (subst (λ (x : Sought). IsSolution x state v) is solved) in
    subst (Evades contests deck) (sym shown) (record { is = own.is; other = own.other; same = own.report })

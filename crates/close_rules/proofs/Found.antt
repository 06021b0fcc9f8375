-- What is found where reasons are tried one by one.
use Rattle.std.proofs.Common.{◌≡◌, ◌+◌, ◌<◌, ℕ, true, false, Option, Some, None, refl, ap, sym, subst, ◌∙◌, arith, inl, inr}
use Rattle.std.specs.Prelude.{◌↔◌}
use Rattle.std.proofs.lemmas.Bool.{cases_lt}
use Rattle.deck_state.specs.PartialDeck.{PartialDeck}
use Rattle.close_rules.specs.declared.reason.Reason.{Reason}
use Rattle.close_rules.specs.declared.reason.Reason.TheVariants.{Order, Totals, Capacity, Blank, Over, Twin, ContestOrder, Pigeon, Columns, Same, Evade}
use Rattle.close_rules.specs.Columns.{have_same_columns}
use Rattle.close_rules.specs.Refutes.{refutes, IsCheap, Closes}
use Rattle.close_rules.proofs.Untested.{columns_swapped, not_itself, not_compared, not_before}

-- what holds of each number below one and of that number
pub one_more : (P : ℕ → Type 0) (n : ℕ) → ((k : ℕ) → k < n → P k) → P n → (k : ℕ) → k < n + 1 → P k
one_more P n below at k lt = elim (cases_lt k n) [
  | inl less ↦ below k less
  | inr more ↦ let is : n ≡ k = omega (arith, lt, more) in subst P is at
]

-- each kind of reason was tried
pub record AreTried (p : PartialDeck) : Type 0 where
  pub columns : refutes p Columns ≡ false
  pub blank : refutes p Blank ≡ false
  pub pigeon : (c : ℕ) → refutes p (Pigeon c) ≡ false
  pub order : (j : ℕ) → refutes p (Order j) ≡ false
  pub contest : (c : ℕ) → (refutes p (Totals c) ≡ false) × (refutes p (Capacity c) ≡ false)
      × (refutes p (Over c) ≡ false)
  pub same : (t u : ℕ) → t < u → refutes p (Same t u) ≡ false
  pub pair : (c d : ℕ) → c < d → (refutes p (Twin c d) ≡ false)
      × (refutes p (ContestOrder c d) ≡ false)

-- two targets or contests in any order
any_same : (p : PartialDeck) (t u : ℕ) → AreTried p → refutes p (Same t u) ≡ false
any_same p t u tried = elim (cases_lt t u) [
  | inl lt ↦ tried.same t u lt
  | inr le ↦ elim (cases_lt u t) [
    | inl lt ↦ columns_swapped p t u (tried.same u t lt)
    | inr ge ↦ let is : t ≡ u = omega (arith, le, ge) in ap (λ (x : ℕ). have_same_columns p x u) is ∙ not_itself p u
  ]
]

any_pair : (p : PartialDeck) (c d : ℕ) → AreTried p
    → (refutes p (Twin c d) ≡ false) × (refutes p (ContestOrder c d) ≡ false)
any_pair p c d tried = elim (cases_lt c d) [
  | inl lt ↦ tried.pair c d lt
  | inr le ↦ not_compared p c d (not_before p c d le)
]

-- so no reason without a misassignment holds
pub none_holds : (p : PartialDeck) → AreTried p → (r : Reason) → IsCheap r → refutes p r ≡ false
none_holds p tried (Order j) is = tried.order j
none_holds p tried (Totals c) is = (tried.contest c).0
none_holds p tried (Capacity c) is = (tried.contest c).1
none_holds p tried Blank is = tried.blank
none_holds p tried (Over c) is = (tried.contest c).2
none_holds p tried (Twin c d) is = (any_pair p c d tried).0
none_holds p tried (ContestOrder c d) is = (any_pair p c d tried).1
none_holds p tried (Pigeon c) is = tried.pigeon c
none_holds p tried Columns is = tried.columns
none_holds p tried (Same t u) is = any_same p t u tried
none_holds p tried (Evade s) is = absurd is

-- nothing is found exactly where none holds
pub exactly : (p : PartialDeck) (result : Option Reason)
    → (result ≡ None → (r : Reason) → IsCheap r → refutes p r ≡ false)
    → ((r : Reason) → result ≡ Some r → Closes p r)
    → (result ≡ None) ↔ ((r : Reason) → IsCheap r → refutes p r ≡ false)
exactly p None none some = (none, λ h. refl)
exactly p (Some r) none some = (none, λ h. let closes = some r refl in let bad : true ≡ false = sym closes.1 ∙ h r closes.0 in cc)

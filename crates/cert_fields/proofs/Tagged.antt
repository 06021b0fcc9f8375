-- Fields that a tag chooses.
use Rattle.std.proofs.Common.{◌≡◌, ℕ, Bool, true, false, cond, eqb, List, [], ◌∷◌, ◌++◌, Option, Some, None, refl, sym, ap, subst, ◌∙◌}
use Rattle.std.proofs.lemmas.Bool.{eqb-true}
use Rattle.std.proofs.lemmas.Option.{same_Some, none-some}
use Rattle.cert_fields.specs.Reading.{◌>>=◌, made_at}
use Rattle.cert_fields.specs.Exact.{Exact}
use Rattle.cert_fields.proofs.Exact.{step}

-- no field at all
abbrev pub nothing_at : List ℕ → Option (Unit {0} × List ℕ)
nothing_at bytes = Some (tt, bytes)

abbrev pub nothing : Unit {0} → List ℕ
nothing _ = []

abbrev pub Always : Unit {0} → Type 0
Always _ = Unit {0}

pub nothing_exact : Exact nothing_at Always nothing
nothing_exact = record {
  takes = λ bytes v rest e. (tt, ap (λ (x : Unit {0} × List ℕ). x.1) (same_Some (tt, bytes) (v, rest) e));
  again = λ v rest _. refl;
}

-- what a chain of tests says of a tag and the bytes behind it
abbrev pub Says : {V : Type 0} → (V → Type 0) → (V → List ℕ) → ℕ → List ℕ → V → List ℕ → Option (V × List ℕ) → Type 0
Says Fits text tag bytes v rest o = o ≡ Some (v, rest) → Fits v × (tag ∷ bytes ≡ text v ++ rest)

pub no_tag : {V : Type 0} (Fits : V → Type 0) (text : V → List ℕ) (tag : ℕ) (bytes : List ℕ) (v : V)
    (rest : List ℕ) → Says Fits text tag bytes v rest None
no_tag Fits text tag bytes v rest e = absurd (none-some (v, rest) e)

-- one more tag before the others
pub one_tag : {V A : Type 0} (Fits : V → Type 0) (text : V → List ℕ) (tag : ℕ) (bytes : List ℕ)
    (v : V) (rest : List ℕ)
    (k : ℕ) (make : A → V) (field : List ℕ → Option (A × List ℕ)) (F : A → Type 0) (t : A → List ℕ) → Exact field F t
    → ((a : A) → F a → Fits (make a) × (text (make a) ≡ k ∷ t a)) → (other : Option (V × List ℕ))
    → Says Fits text tag bytes v rest other
    → Says Fits text tag bytes v rest (cond (eqb tag k) (made_at make field bytes) other)
one_tag {V} {A} Fits text tag bytes v rest k make field F t x same other others e = by_test (eqb tag k) refl e
  where
    made : tag ≡ k → made_at make field bytes ≡ Some (v, rest)
        → Fits v × (tag ∷ bytes ≡ text v ++ rest)
    made is e =
        let p = step (field bytes) (λ a. Some (make a.0, a.1)) (v, rest) e in
        let h = x.takes bytes p.0.0 p.0.1 p.1 in
        let s = same p.0.0 h.0 in
        let line : tag ∷ bytes ≡ text (make p.0.0) ++ p.0.1 = ap (λ (i : ℕ). i ∷ bytes) is ∙ ap (λ (r : List ℕ). k ∷ r) h.1 ∙ ap (λ (r : List ℕ). r ++ p.0.1) (sym s.1) in
        subst (λ (w : V × List ℕ). Fits w.0 × (tag ∷ bytes ≡ text w.0 ++ w.1)) (same_Some (make p.0.0, p.0.1) (v, rest) p.2) (s.0, line)

    by_test : (b : Bool) → eqb tag k ≡ b → cond b (made_at make field bytes) other ≡ Some (v, rest)
        → Fits v × (tag ∷ bytes ≡ text v ++ rest)
    by_test true is e = made (eqb-true _ _ is) e
    by_test false is e = others e

-- a made value that is read again
pub made_again : {A V : Type 0} (make : A → V) (field : List ℕ → Option (A × List ℕ))
    (F : A → Type 0) (t : A → List ℕ) → Exact field F t
    → (a : A) (rest : List ℕ) → F a → made_at make field (t a ++ rest) ≡ Some (make a, rest)
made_again {A} make field F t x a rest fits = ap (λ (o : Option (A × List ℕ)). o >>= λ a. Some (make a.0, a.1)) (x.again a rest fits)

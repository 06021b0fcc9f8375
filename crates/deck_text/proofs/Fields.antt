-- The fields of a record, one by one.
use Rattle.std.proofs.Common.{◌≡◌, ◌==◌, ◌&&◌, ℕ, zero, suc, Bool, true, false, List, [], ◌∷◌, None, length, get_or, refl, sym, arith}
use Rattle.std.proofs.lemmas.Bool.{ne_eqb, both_ways}
use Rattle.std.specs.Str.{bytes_eq}
use Rattle.std.specs.Cmp.Lexicographic.{pointwise}
use Rattle.csv.specs.Records.{field_at}

-- past the end there is nothing
pub no_field : (fields : List (List ℕ)) (i : ℕ) → field_at fields i ≡ None → get_or fields i [] ≡ []
unfolding field_at
no_field [] i h = refl
no_field (f ∷ fields) zero h = cc
no_field (f ∷ fields) (suc i) h = no_field fields i h

three : (a b c : Bool) → (a && b && c) ≡ (a && (b && (c && true)))
three true true true = refl
three true true false = refl
three true false c = refl
three false b c = refl

no_end : (x : Bool) → false ≡ (x && false)
no_end true = refl
no_end false = refl

-- a record of three fields is compared field by field
pub same_fields : (fields : List (List ℕ)) (a b c : List ℕ)
    → ((length fields == 3) && bytes_eq (get_or fields 0 []) a && bytes_eq (get_or fields 1 []) b
    && bytes_eq (get_or fields 2 []) c) ≡ pointwise bytes_eq fields (a ∷ b ∷ c ∷ [])
same_fields [] a b c = refl
same_fields (x ∷ []) a b c = no_end (bytes_eq x a)
same_fields (x ∷ y ∷ []) a b c = rw (sym (no_end (bytes_eq y b))) (no_end (bytes_eq x a))
same_fields (x ∷ y ∷ z ∷ []) a b c = three (bytes_eq x a) (bytes_eq y b) (bytes_eq z c)
same_fields (x ∷ y ∷ z ∷ w ∷ rest) a b c =
    let long : (suc (suc (suc (suc (length rest)))) == 3) ≡ false = ne_eqb _ 3 (λ e. omega (arith, e)) in
    rw (long, sym (no_end (bytes_eq z c)), sym (no_end (bytes_eq y b))) (no_end (bytes_eq x a))

-- a record that is as long as three fields has three
pub three_long : (fields : List (List ℕ)) (a b c : List ℕ)
    → pointwise bytes_eq fields (a ∷ b ∷ c ∷ []) ≡ true → length fields ≡ 3
three_long [] a b c h = cc
three_long (x ∷ []) a b c h = absurd (both_ways _ (sym (no_end (bytes_eq x a))) h)
three_long (x ∷ y ∷ []) a b c h = absurd (both_ways _ (rw (sym (no_end (bytes_eq y b))) (sym (no_end (bytes_eq x a)))) h)
three_long (x ∷ y ∷ z ∷ []) a b c h = refl
three_long (x ∷ y ∷ z ∷ w ∷ rest) a b c h =
    absurd (both_ways _ (rw (sym (no_end (bytes_eq z c)), sym (no_end (bytes_eq y b))) (sym (no_end (bytes_eq x a)))) h)

-- Counts in the same slice of several lists.
use Rattle.std.proofs.Common.{◌≡◌, ◌≤◌, ◌+◌, ◌-◌, ◌⊎◌, inl, inr, ℕ, zero, suc, Bool, true, false, List, [], ◌∷◌, take, drop, get_or, cond, count_by, refl, ap, sym, subst, arith}
use Rattle.std.specs.Prelude.{slice_range}
use Rattle.std.proofs.lemmas.List.{get_or-drop}
use Rattle.std.proofs.lemmas.List.Sums.{sum_by-cons}

-- a count of the front, by its first element
count_head : {X : Type 0} (p : X → Bool) (d : X) (n : ℕ) (xs : List X) → p d ≡ false
    → count_by p (take (suc n) xs) ≡ cond (p (get_or xs 0 d)) 1 0 + count_by p (take n (drop 1 xs))
count_head p d zero [] h = sym (ap (λ (b : Bool). cond b 1 0 + 0) h)
count_head p d (suc n) [] h = sym (ap (λ (b : Bool). cond b 1 0 + 0) h)
count_head {X} p d n (x ∷ xs) h = sum_by-cons (λ (y : X). cond (p y) 1 0) x (take n xs)

or_le : (x y z : Bool) → (x ≡ true → (y ≡ true) ⊎ (z ≡ true)) → cond x 1 0 ≤ cond y 1 0 + cond z 1 0
or_le false y z h = omega arith
or_le true true z h = omega arith
or_le true false true h = omega arith
or_le true false false h = elim (h refl) [
  | inl e ↦ absurd (cc)
  | inr e ↦ absurd (cc)
]

-- where each that passes has one of two others that pass, there are no more of them
count_both : {X Y Z : Type 0} (p : X → Bool) (q : Y → Bool) (r : Z → Bool) (a : X) (b : Y) (c : Z)
    → p a ≡ false → q b ≡ false → r c ≡ false
    → (n : ℕ) (xs : List X) (ys : List Y) (zs : List Z)
    → ((i : ℕ) → p (get_or xs i a) ≡ true → (q (get_or ys i b) ≡ true) ⊎ (r (get_or zs i c) ≡ true))
    → count_by p (take n xs) ≤ count_by q (take n ys) + count_by r (take n zs)
count_both p q r a b c ha hb hc zero xs ys zs h = omega arith
count_both p q r a b c ha hb hc (suc n) xs ys zs h =
    let e = count_head p a n xs ha in
    let f = count_head q b n ys hb in
    let g = count_head r c n zs hc in
    let rest = count_both p q r a b c ha hb hc n (drop 1 xs) (drop 1 ys) (drop 1 zs)
    (λ i k. subst (λ y. (q y ≡ true) ⊎ (r (get_or (drop 1 zs) i c) ≡ true)) (sym (get_or-drop 1 ys i b))
    (subst (λ z. (q (get_or ys (1 + i) b) ≡ true) ⊎ (r z ≡ true)) (sym (get_or-drop 1 zs i c))
    (h (1 + i) (subst (λ x. p x ≡ true) (get_or-drop 1 xs i a) k)))) in
    let here = or_le (p (get_or xs 0 a)) (q (get_or ys 0 b)) (r (get_or zs 0 c)) (h 0) in
    omega (arith, e, f, g, rest, here)

-- the same in a range
pub range_both : {X Y Z : Type 0} (p : X → Bool) (q : Y → Bool) (r : Z → Bool) (a : X) (b : Y)
    (c : Z) → p a ≡ false → q b ≡ false → r c ≡ false
    → (m n : ℕ) (xs : List X) (ys : List Y) (zs : List Z)
    → ((i : ℕ) → p (get_or xs i a) ≡ true → (q (get_or ys i b) ≡ true) ⊎ (r (get_or zs i c) ≡ true))
    → count_by p (slice_range xs m n)
    ≤ count_by q (slice_range ys m n) + count_by r (slice_range zs m n)
range_both p q r a b c ha hb hc m n xs ys zs h =
    count_both p q r a b c ha hb hc (n - m) (drop m xs) (drop m ys) (drop m zs)
    (λ i k. subst (λ y. (q y ≡ true) ⊎ (r (get_or (drop m zs) i c) ≡ true)) (sym (get_or-drop m ys i b))
    (subst (λ z. (q (get_or ys (m + i) b) ≡ true) ⊎ (r z ≡ true)) (sym (get_or-drop m zs i c))
    (h (m + i) (subst (λ x. p x ≡ true) (get_or-drop m xs i a) k))))

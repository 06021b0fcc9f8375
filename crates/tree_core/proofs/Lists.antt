-- Elements of lists: the last one, those in front, and the one that a read of the code gave.
use Rattle.std.proofs.Common.{◌≡◌, ℕ, zero, suc, ◌<◌, Some, None, List, [], ◌∷◌, ◌++◌, length, get_or, take, refl, ap, sym, ◌∙◌, arith}
use Rattle.std.specs.List.{slice_get}
use Rattle.std.proofs.lemmas.Option.{get_or_from_slice_get, slice_get-get_or}

-- the element behind a list
pub slice_get-last : {X : Type 0} (xs : List X) (x : X)
    → slice_get (xs ++ (x ∷ [])) (length xs) ≡ Some x
slice_get-last [] x = refl
slice_get-last (y ∷ xs) x = slice_get-last xs x

-- more elements behind change nothing of those in front
pub slice_get-front : {X : Type 0} (xs ys : List X) (i : ℕ) → i < length xs
    → slice_get (xs ++ ys) i ≡ slice_get xs i
slice_get-front [] ys i h = absurd (omega arith)
slice_get-front (x ∷ xs) ys zero h = refl
slice_get-front (x ∷ xs) ys (suc i) h = slice_get-front xs ys i (omega arith)

-- below the length there is an element
pub none_past : {X : Type 0} (xs : List X) (j : ℕ) → j < length xs → slice_get xs j ≡ None → ⊥
none_past [] j b e = omega arith
none_past (x ∷ xs) zero b e = cc
none_past (x ∷ xs) (suc j) b e = none_past xs j (omega arith) e

-- one more element of a list
pub take-next : {X : Type 0} (xs : List X) (i : ℕ) (x : X) → slice_get xs i ≡ Some x
    → take (suc i) xs ≡ take i xs ++ (x ∷ [])
take-next [] i x h = absurd (cc)
take-next (y ∷ xs) zero x h = let e : y ≡ x = cc in ap (λ z. z ∷ []) e
take-next (y ∷ xs) (suc i) x h = ap (λ zs. y ∷ zs) (take-next xs i x h)

-- the node that is read at a place is the one that stands there
pub node_is : {X : Type 0} (xs : List X) (i : ℕ) (x y : X) → slice_get xs i ≡ Some y
    → x ≡ get_or xs i x → x ≡ y
node_is xs i x y at read = read ∙ get_or_from_slice_get xs i y x at

-- the element that was read at a place stands there
pub read_node : {X : Type 0} (xs : List X) (i : ℕ) (x y : X) → i < length xs → x ≡ get_or xs i x
    → x ≡ y → slice_get xs i ≡ Some y
read_node xs i x y below read is = slice_get-get_or xs i x below ∙ ap Some (sym read ∙ is)

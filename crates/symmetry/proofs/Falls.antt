-- Lists of ballots in which none is smaller than a later one.
use Rattle.std.proofs.Common.{◌≡◌, ◌≢◌, ◌+◌, ◌-◌, ◌<◌, ◌++◌, ℕ, zero, suc, Bool, true, false, List, [], ◌∷◌, length, get_or, replicate, refl, sym, ◌∙◌, arith, inl, inr}
use Rattle.std.specs.Ordering.{bool_cmp}
use Rattle.std.specs.Cmp.Lexicographic.{slice_cmp}
use Rattle.std.specs.declared.cmp.Ordering.TheVariants.{Less}
use Rattle.std.proofs.lemmas.Bool.{cases_lt}
use Rattle.std.proofs.lemmas.List.{get_or_append_left, get_or-append_right, get_or-replicate, length-append, length-replicate}
use Rattle.lat_ballots.specs.Falling.{AreFalling}
use Rattle.lat_ballots.specs.Plain.{only}

-- a ballot isn't smaller than another
abbrev pub IsNotSmaller : List Bool → List Bool → Type 0
IsNotSmaller a b = slice_cmp bool_cmp a b ≢ Less

-- none is smaller than a later one
abbrev pub Falls : List (List Bool) → Type 0
Falls xs = (i j : ℕ) → i < j → j < length xs → IsNotSmaller (get_or xs i []) (get_or xs j [])

pub are_falling : (xs : List (List Bool)) → Falls xs → AreFalling xs
are_falling xs falls j lt = falls j (j + 1) (omega arith) lt

-- each of a list isn't smaller than each of another
abbrev pub Before : List (List Bool) → List (List Bool) → Type 0
Before xs ys = (i j : ℕ) → i < length xs → j < length ys → IsNotSmaller (get_or xs i []) (get_or ys j [])

pub falls_both : (xs ys : List (List Bool)) → Falls xs → Falls ys → Before xs ys → Falls (xs ++ ys)
falls_both xs ys first second between i j lt within = elim (cases_lt j (length xs)) [
  | inl j_in ↦
      let a = get_or_append_left xs ys [] i (omega (arith, lt, j_in)) in
      let b = get_or_append_left xs ys [] j j_in in
      λ less. first i j lt j_in ((λ k. slice_cmp bool_cmp (sym a k) (sym b k)) ∙ less)
  | inr j_past ↦
      let b = get_or-append_right xs ys (length xs) j [] refl j_past in
      let j_there : j - length xs < length ys = omega (arith, within, j_past, length-append xs ys) in
      elim (cases_lt i (length xs)) [
        | inl i_in ↦
            let a = get_or_append_left xs ys [] i i_in in
            λ less. between i (j - length xs) i_in j_there ((λ k. slice_cmp bool_cmp (sym a k) (sym b k)) ∙ less)
        | inr i_past ↦
            let a = get_or-append_right xs ys (length xs) i [] refl i_past in
            λ less. second (i - length xs) (j - length xs) (omega (arith, lt, i_past)) j_there ((λ k. slice_cmp bool_cmp (sym a k) (sym b k)) ∙ less)
      ]
]

-- a ballot with every mark of another isn't smaller
pub has_more : (a b : List Bool) → length a ≡ length b
    → ((t : ℕ) → t < length a → get_or b t false ≡ true → get_or a t false ≡ true)
    → IsNotSmaller a b
has_more [] [] long more = λ less. absurd (cc less)
has_more [] (y ∷ ys) long more = absurd (omega (arith, long))
has_more (x ∷ xs) [] long more = absurd (omega (arith, long))
has_more (x ∷ xs) (y ∷ ys) long more = by_first x y (more 0 (omega arith)) (has_more xs ys (omega (arith, long)) (λ t lt. more (suc t) (omega (arith, lt))))
  where
    by_first : (x y : Bool) → (y ≡ true → x ≡ true) → IsNotSmaller xs ys
        → IsNotSmaller (x ∷ xs) (y ∷ ys)
    by_first true true h rest = rest
    by_first true false h rest = λ less. absurd (cc less)
    by_first false true h rest = λ less. absurd (cc (h refl))
    by_first false false h rest = rest

-- copies
pub copies_fall : (n : ℕ) (b : List Bool) → Falls (replicate n b)
copies_fall n b i j lt within =
    let j_in : j < n = omega (arith, within, length-replicate n b) in
    let first = get_or-replicate n i b [] (omega (arith, lt, j_in)) in
    let second = get_or-replicate n j b [] j_in in
    λ less. has_more b b refl (λ t h is. is) ((λ k. slice_cmp bool_cmp (sym first k) (sym second k)) ∙ less)

-- of two ballots with one mark the one that is marked earlier isn't smaller
pub earlier_mark : (n t u : ℕ) → t < u → u < n → IsNotSmaller (only n t) (only n u)
earlier_mark zero t u lt within = absurd (omega (arith, within))
earlier_mark (suc n) t zero lt within = absurd (omega (arith, lt))
earlier_mark (suc n) zero (suc u) lt within = λ less. absurd (cc less)
earlier_mark (suc n) (suc t) (suc u) lt within = earlier_mark n t u (omega (arith, lt)) (omega (arith, within))

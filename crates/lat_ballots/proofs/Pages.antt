-- Words of sets of ballots: one ballot more, and one word more.
use Rattle.std.proofs.Common.{◌≡◌, ◌<◌, ◌≤◌, ◌+◌, ◌-◌, ◌*◌, ◌^◌, inl, inr, ℕ, zero, suc, Bool, List, [], ◌∷◌, length, map, take, drop, get_or, set, min, cond, pow_mono, refl, ap, sym, ◌∙◌, arith, length-drop}
use Rattle.std.specs.Simd.Lanes.{mask_l}
use Rattle.std.proofs.lemmas.Simd.{mask_l-lt}
use Rattle.std.proofs.lemmas.List.{drop_more, length-map, take_all, get_or-set_other}
use Rattle.std.proofs.lemmas.Grind.{get_or-set_at}
use Rattle.std.proofs.lemmas.Bool.{cases_lt, cases_eq}
use Rattle.lat_ballots.specs.Columns.{page, IsSet}

-- a mask of few bits
pub mask_below : (ms : List Bool) (n : ℕ) → length ms ≤ n → mask_l ms < 2 ^ n
mask_below ms n few = let le : 2 ^ length ms ≤ 2 ^ n = pow_mono few in omega (arith, mask_l-lt ms, le)

-- the last r ballots before a place
abbrev pub before : List (List Bool) → ℕ → ℕ → List (List Bool)
before deck last r = take r (drop (last - r) deck)

-- one ballot more, in front
pub word_more : (p : List Bool → Bool) (deck : List (List Bool)) (last r : ℕ) → r < last
    → last ≤ length deck
    → mask_l (map p (before deck last (r + 1)))
    ≡ mask_l (map p (before deck last r)) * 2 + cond (p (get_or deck (last - 1 - r) [])) 1 0
word_more p deck last r lt le =
    let place : last - (r + 1) ≡ last - 1 - r = omega arith in
    let next : last - 1 - r + 1 ≡ last - r = omega (arith, lt) in
    let more : r + 1 ≡ suc r = omega arith in
    let split : before deck last (r + 1) ≡ get_or deck (last - 1 - r) [] ∷ before deck last r =
    ap (λ (k : ℕ). take (r + 1) (drop k deck)) place
    ∙ ap (take (r + 1)) (drop_more deck (last - 1 - r) [] (omega (arith, lt, le)))
    ∙ ap (λ (k : ℕ). take k (get_or deck (last - 1 - r) [] ∷ drop (last - 1 - r + 1) deck)) more
    ∙ ap (λ (k : ℕ). get_or deck (last - 1 - r) [] ∷ take r (drop k deck)) next in
    let read = ap (λ (xs : List (List Bool)). mask_l (map p xs)) split in
    omega (arith, read)

few_take : (m : ℕ) (xs : List (List Bool)) → length (take m xs) ≤ m
few_take zero xs = omega arith
few_take (suc m) [] = omega arith
few_take (suc m) (x ∷ xs) = let rest = few_take m xs in omega (arith, rest)

-- a word of fewer than 64 bits has room for one more
pub word_small : (p : List Bool → Bool) (deck : List (List Bool)) (last r : ℕ) → r < 64
    → mask_l (map p (before deck last r)) < 2 ^ 63
word_small p deck last r lt = mask_below (map p (before deck last r)) 63 (omega (arith, few_take r (drop (last - r) deck), length-map (before deck last r) p, lt))

-- a page of 64 ballots, and one of fewer at the end
pub page_is : (deck : List (List Bool)) (i first last : ℕ) → first ≡ i * 64
    → last ≡ min (length deck) (first + 64) → before deck last (last - first) ≡ page deck i
page_is deck i first last e is = elim (cases_lt (length deck) (first + 64)) [
  | inl short ↦ elim (cases_lt (length deck) first) [
    | inl none ↦
        let at : last - first ≡ 0 = omega (arith, is, none) in
        let past : length (drop (64 * i) deck) ≡ 0 = omega (arith, length-drop (64 * i) deck, e, none) in
        ap (λ (k : ℕ). before deck last k) at ∙ sym (ap (take 64) (nothing (drop (64 * i) deck) past))
    | inr some ↦
        let rest : length (drop (64 * i) deck) ≤ last - first = omega (arith, length-drop (64 * i) deck, e, is, short) in
        let place : last - (last - first) ≡ 64 * i = omega (arith, e, is, short, some) in
        ap (λ (k : ℕ). take (last - first) (drop k deck)) place ∙ take_all (last - first) (drop (64 * i) deck) rest
        ∙ sym (take_all 64 (drop (64 * i) deck) (omega (arith, length-drop (64 * i) deck, e, short)))
  ]
  | inr full ↦
      let count : last - first ≡ 64 = omega (arith, is, full) in
      let place : last - (last - first) ≡ 64 * i = omega (arith, e, is, full) in
      λ k. take (count k) (drop (place k) deck)
]
  where
    nothing : (xs : List (List Bool)) → length xs ≡ 0 → xs ≡ []
    nothing [] h = refl
    nothing (x ∷ xs) h = absurd (omega (arith, h))

-- what the loop over a page has, and what it comes to
pub whole_word : (p : List Bool → Bool) (deck : List (List Bool)) (i last r word : ℕ)
    → last ≡ min (length deck) (i * 64 + 64) → r ≡ last - i * 64
    → word ≡ mask_l (map p (before deck last r)) → word ≡ mask_l (map p (page deck i))
whole_word p deck i last r word is all e =
    e ∙ ap (λ (k : ℕ). mask_l (map p (before deck last k))) all ∙ ap (λ (xs : List (List Bool)). mask_l (map p xs)) (page_is deck i (i * 64) last refl is)

-- one word more
pub set_more : (n : ℕ) (p : List Bool → Bool) (words : List ℕ) (word : ℕ) (deck : List (List Bool))
    → n < length words → IsSet n words p deck → word ≡ mask_l (map p (page deck n))
    → IsSet (n + 1) (set words n word) p deck
set_more n p words word deck lt is e i below = elim (cases_eq i n) [
  | inl same ↦ get_or-set_at words n i word 0 same lt ∙ e ∙ ap (λ (k : ℕ). mask_l (map p (page deck k))) (sym same)
  | inr other ↦ get_or-set_other words n i word 0 other ∙ is i (omega (arith, below, other))
]

-- Lists whose first elements are those of another, and a deck that is written mark by mark.
use Rattle.std.proofs.Common.{◌≡◌, ◌+◌, ◌<◌, ℕ, zero, suc, Bool, false, List, [], ◌∷◌, ◌++◌, length, take, drop, get_or, refl, ap, sym, ◌∙◌, arith}
use Rattle.std.specs.Prelude.{slice_set}
use Rattle.std.proofs.lemmas.List.{get_or-set_same, set-get_or}
use Rattle.lat_ballots.specs.Deck.{Ballots, IsDeck, ballot_at, mark_at, with_mark}
use Rattle.deck_builder.specs.Runs.{with_ballot}

-- the first i of xs, and then ys from there on
abbrev pub filled : {A : Type 0} → ℕ → List A → List A → List A
filled i xs ys = take i xs ++ drop i ys

pub filled_more : {A : Type 0} (xs ys : List A) (i : ℕ) (d : A) → i < length xs
    → length xs ≡ length ys → slice_set (filled i xs ys) i (get_or xs i d) ≡ filled (suc i) xs ys
filled_more [] ys i d lt long = absurd (omega arith)
filled_more (x ∷ xs) [] i d lt long = absurd (omega (arith, long))
filled_more (x ∷ xs) (y ∷ ys) zero d lt long = refl
filled_more (x ∷ xs) (y ∷ ys) (suc i) d lt long = ap (λ (zs : List _). x ∷ zs) (filled_more xs ys i d (omega (arith, lt)) (omega (arith, long)))

pub filled_all : {A : Type 0} (n : ℕ) (xs ys : List A) → length xs ≡ n → length ys ≡ n
    → filled n xs ys ≡ xs
filled_all zero [] [] a b = refl
filled_all zero [] (y ∷ ys) a b = absurd (omega (arith, b))
filled_all zero (x ∷ xs) ys a b = absurd (omega (arith, a))
filled_all (suc n) [] ys a b = absurd (omega (arith, a))
filled_all (suc n) (x ∷ xs) [] a b = absurd (omega (arith, b))
filled_all (suc n) (x ∷ xs) (y ∷ ys) a b = ap (λ (zs : List _). x ∷ zs) (filled_all n xs ys (omega (arith, a)) (omega (arith, b)))

set_twice : {A : Type 0} (xs : List A) (i : ℕ) (a b : A)
    → slice_set (slice_set xs i a) i b ≡ slice_set xs i b
set_twice [] i a b = refl
set_twice (x ∷ xs) zero a b = refl
set_twice (x ∷ xs) (suc i) a b = ap (λ (zs : List _). x ∷ zs) (set_twice xs i a b)

-- one more mark of ballot j is set
set_more : (deck : Ballots) (j t : ℕ) (xs : List Bool) → j < length deck.ballots → t < length xs
    → length xs ≡ length (ballot_at deck j)
    → with_mark (with_ballot deck j (filled t xs (ballot_at deck j))) j t (get_or xs t false)
    ≡ with_ballot deck j (filled (t + 1) xs (ballot_at deck j))
set_more deck j t xs h lt long =
    let here = get_or-set_same deck.ballots j (filled t xs (ballot_at deck j)) [] h in
    let row = ap (λ (ballot : List Bool). slice_set ballot t (get_or xs t false)) here ∙ filled_more xs (ballot_at deck j) t false lt long in
    let next : suc t ≡ t + 1 = omega arith in
    ap (λ (ballots : List (List Bool)). record deck { ballots = ballots })
    (set_twice deck.ballots j (filled t xs (ballot_at deck j)) (slice_set (get_or (slice_set deck.ballots j (filled t xs (ballot_at deck j))) j []) t (get_or xs t false))
    ∙ ap (slice_set deck.ballots j) (row ∙ ap (λ (n : ℕ). filled n xs (ballot_at deck j)) next))

-- nothing is set yet
pub set_none : (deck : Ballots) (j : ℕ) (xs : List Bool)
    → deck ≡ with_ballot deck j (filled 0 xs (ballot_at deck j))
set_none deck j xs = ap (λ (ballots : List (List Bool)). record deck { ballots = ballots }) (sym (set-get_or deck.ballots j []))

-- a ballot of another deck is to be written over ballot j
pub record CanWrite (deck whole : Ballots) (j : ℕ) : Type 0 where
  pub is : IsDeck deck
  pub there : j < length deck.ballots
  pub ballot : length (ballot_at whole j) ≡ deck.targets

-- a step of the loop over its targets
pub marks_more : (deck whole now next : Ballots) (j t : ℕ) (on : Bool) → CanWrite deck whole j
    → t < deck.targets
    → now ≡ with_ballot deck j (filled t (ballot_at whole j) (ballot_at deck j))
    → next ≡ with_mark now j t on → on ≡ mark_at whole j t
    → next ≡ with_ballot deck j (filled (t + 1) (ballot_at whole j) (ballot_at deck j))
marks_more deck whole now next j t on can lt before step mark =
    let own = can.is.fits j [] can.there in
    step ∙ ((λ i. with_mark (before i) j t (mark i)) ∙ set_more deck j t (ballot_at whole j) can.there (omega (arith, lt, can.ballot)) (omega (arith, own, can.ballot)))

-- when all its marks are set
pub marks_all : (deck whole now : Ballots) (j n : ℕ) → CanWrite deck whole j → n ≡ deck.targets
    → now ≡ with_ballot deck j (filled n (ballot_at whole j) (ballot_at deck j))
    → now ≡ with_ballot deck j (ballot_at whole j)
marks_all deck whole now j n can e is =
    is ∙ ap (with_ballot deck j) (filled_all n (ballot_at whole j) (ballot_at deck j) (can.ballot ∙ sym e) (can.is.fits j [] can.there ∙ sym e))

-- a step of the loop over the ballots
pub ballots_more : (whole now next : Ballots) (before : List (List Bool)) (j : ℕ)
    → j < length whole.ballots → length whole.ballots ≡ length before
    → now ≡ record whole { ballots = filled j whole.ballots before } → next ≡ with_ballot now j (ballot_at whole j) → next ≡ record whole { ballots = filled (j + 1) whole.ballots before }
ballots_more whole now next before j h long is step =
    let one : suc j ≡ j + 1 = omega arith in
    step ∙ ((λ i. with_ballot (is i) j (ballot_at whole j))
    ∙ ap (λ (ballots : List (List Bool)). record whole { ballots = ballots }) (filled_more whole.ballots before j [] h long ∙ ap (λ (n : ℕ). filled n whole.ballots before) one))

-- as many are there
pub filled_long : {A : Type 0} (xs ys : List A) (i : ℕ) → length xs ≡ length ys
    → length (filled i xs ys) ≡ length ys
filled_long xs ys zero e = refl
filled_long [] [] (suc i) e = refl
filled_long [] (y ∷ ys) (suc i) e = absurd (omega (arith, e))
filled_long (x ∷ xs) [] (suc i) e = absurd (omega (arith, e))
filled_long (x ∷ xs) (y ∷ ys) (suc i) e = omega (arith, filled_long xs ys i (omega (arith, e)))

-- Decks by their marks, ballot by ballot.
use Rattle.std.proofs.Common.{◌≡◌, ◌<◌, ◌+◌, ◌-◌, ◌*◌, ◌/◌, ◌%◌, ◌++◌, ◌∷◌, [], ℕ, zero, suc, Bool, true, false, List, length, take, drop, set, get_or, refl, ap, sym, subst, ◌∙◌, arith, length-append, inl, inr}
use Rattle.std.specs.Prelude.{MatchBool}
use Rattle.std.proofs.lemmas.List.{set-append_left, set-append_right, take_all}
use Rattle.std.proofs.lemmas.List.Elements.{All-head, All-tail}
use Rattle.std.proofs.lemmas.Bool.{cases_eq}
use Rattle.std.proofs.lemmas.Nat.{div_below}
use Rattle.std.proofs.Math.Nat.{suc-mul, zero-mul, div-add-mod'}
use Rattle.std.proofs.Math.Seq.{take-append_seam, drop-append_seam}
use Rattle.lat_base.specs.declared.contest.Contest.{Contest}
use Rattle.lat_base.specs.Shape.{target_count}
use Rattle.lat_base.specs.Deck.{Fits}
use Rattle.lat_base.specs.Rules.{RuleSet, Obeys}
use Rattle.lat_base.specs.Goodness.{IsRobust, IsGood, NoGoodBelow}
use Rattle.lat_ballots.specs.Deck.{Ballots, IsDeck, with_mark}
use Rattle.plain_search.specs.Trying.{marks_of, NoGoodFrom}
use Rattle.plain_search.proofs.Fronts.{front_set, begins_whole, begins_more}

-- a deck over the style's targets has ballots of that length
pub deck_fits : (contests : List Contest) (deck : Ballots) → IsDeck deck
    → deck.targets ≡ target_count contests → Fits (target_count contests) deck.ballots
deck_fits contests deck is e = subst (λ (n : ℕ). Fits n deck.ballots) e is.fits

pub good_of_parts : (contests : List Contest) (rules : RuleSet) (deck : List (List Bool))
    → Fits (target_count contests) deck → IsRobust contests deck → Obeys contests rules deck
    → IsGood contests rules deck
good_of_parts contests rules deck fits robust obeys = record { fits = fits; robust = robust; obeys = obeys }

front_fits : (n : ℕ) (b : List Bool) (deck : List (List Bool)) → Fits n (b ∷ deck) → length b ≡ n
front_fits n b deck fits = All-head (λ (x : List Bool). length x ≡ n) b deck fits

rest_fits : (n : ℕ) (b : List Bool) (deck : List (List Bool)) → Fits n (b ∷ deck) → Fits n deck
rest_fits n b deck fits = All-tail (λ (x : List Bool). length x ≡ n) b deck fits

-- a deck of k ballots of n marks has k times n marks
pub length-marks_of : (n : ℕ) (deck : List (List Bool)) → Fits n deck
    → length (marks_of deck) ≡ length deck * n
length-marks_of n [] fits = sym (zero-mul n)
length-marks_of n (b ∷ deck) fits =
    let here = front_fits n b deck fits in
    let rest = length-marks_of n deck (rest_fits n b deck fits) in
    omega (arith, length-append b (marks_of deck), here, rest, suc-mul (length deck) n)

-- one mark of one ballot is one of the deck's marks
pub marks_of-set : (n : ℕ) (deck : List (List Bool)) (j t : ℕ) (on : Bool) → Fits n deck
    → j < length deck → t < n
    → marks_of (set deck j (set (get_or deck j []) t on)) ≡ set (marks_of deck) (j * n + t) on
marks_of-set n [] j t on fits h k = absurd (omega arith)
marks_of-set n (b ∷ deck) zero t on fits h k =
    let place : t ≡ zero * n + t = omega (arith, zero-mul n) in
    sym (set-append_left b (marks_of deck) t on (omega (arith, front_fits n b deck fits, k))) ∙ ap (λ (i : ℕ). set (b ++ marks_of deck) i on) place
marks_of-set n (b ∷ deck) (suc j) t on fits h k =
    let rest : suc j * n + t - n ≡ j * n + t = omega (arith, suc-mul j n) in
    ap (λ (ms : List Bool). b ++ ms) (marks_of-set n deck j t on (rest_fits n b deck fits) (omega arith) k)
    ∙ ap (λ (i : ℕ). b ++ set (marks_of deck) i on) (sym rest)
    ∙ sym (set-append_right b (marks_of deck) n (suc j * n + t) on (front_fits n b deck fits) (omega (arith, suc-mul j n)))

-- decks of as many ballots with the same marks are equal
pub same_marks : (n : ℕ) (a b : List (List Bool)) → Fits n a → Fits n b → length a ≡ length b
    → marks_of a ≡ marks_of b → a ≡ b
same_marks n [] [] fits others e same = refl
same_marks n [] (y ∷ b) fits others e same = absurd (omega arith)
same_marks n (x ∷ a) [] fits others e same = absurd (omega arith)
same_marks n (x ∷ a) (y ∷ b) fits others e same =
    let long : length x ≡ length y = front_fits n x a fits ∙ sym (front_fits n y b others) in
    let first : x ≡ y =
    sym (take-append_seam x (marks_of a)) ∙ ap (take (length x)) same ∙ ap (λ (m : ℕ). take m (y ++ marks_of b)) long ∙ take-append_seam y (marks_of b) in
    let rest : marks_of a ≡ marks_of b =
    sym (drop-append_seam x (marks_of a)) ∙ ap (drop (length x)) same ∙ ap (λ (m : ℕ). drop m (y ++ marks_of b)) long ∙ drop-append_seam y (marks_of b) in
    (λ i. first i ∷ same_marks n a b (rest_fits n x a fits) (rest_fits n y b others) (omega arith) rest i)

-- the ballot and the target of a place
pub place_ballot : (place n k : ℕ) → 0 < n → place < k * n → place / n < k
place_ballot place n k some lt = div_below place n k some lt

pub place_back : (place n : ℕ) → 0 < n → place / n * n + place % n ≡ place
place_back place n some = div-add-mod' place n

-- where a whole deck isn't good, no deck with its marks is
pub none_here : (contests : List Contest) (rules : RuleSet) (deck : List (List Bool)) (place : ℕ)
    → Fits (target_count contests) deck → place ≡ length deck * target_count contests
    → ¬ IsGood contests rules deck
    → NoGoodFrom contests rules (length deck) (take place (marks_of deck))
none_here contests rules deck place fits end bad = λ other long begins good.
    let n = target_count contests in
    let whole : take place (marks_of deck) ≡ marks_of deck = take_all place (marks_of deck) (omega (arith, length-marks_of n deck fits, end)) in
    let begun : take (length (marks_of deck)) (marks_of other) ≡ marks_of deck = subst (λ (f : List Bool). take (length f) (marks_of other) ≡ f) whole begins in
    let sized : length (marks_of other) ≡ length (marks_of deck) = length-marks_of n other good.fits ∙ (λ i. long i * n) ∙ sym (length-marks_of n deck fits) in
    bad (subst (IsGood contests rules) (same_marks n other deck good.fits fits long (begins_whole (marks_of other) (marks_of deck) sized begun)) good)

by_mark : (contests : List Contest) (rules : RuleSet) (k : ℕ) (front : List Bool)
    (other : List (List Bool)) → NoGoodFrom contests rules k (front ++ false ∷ [])
    → NoGoodFrom contests rules k (front ++ true ∷ [])
    → length other ≡ k → (mark : Bool)
    → take (length (front ++ mark ∷ [])) (marks_of other) ≡ front ++ mark ∷ []
    → ¬ IsGood contests rules other
by_mark contests rules k front other off on long false begins = off other long begins
by_mark contests rules k front other off on long true begins = on other long begins

-- where no deck is good with a mark at the next place or without it, none is
pub both_marks : (contests : List Contest) (rules : RuleSet) (k place : ℕ) (front : List Bool)
    → length front ≡ place → place < k * target_count contests
    → NoGoodFrom contests rules k (front ++ false ∷ [])
    → NoGoodFrom contests rules k (front ++ true ∷ []) → NoGoodFrom contests rules k front
both_marks contests rules k place front sized lt off on = λ other long begins good.
    let total = length-marks_of (target_count contests) other good.fits ∙ (λ i. long i * target_count contests) in
    by_mark contests rules k front other off on long (get_or (marks_of other) place false)
    (begins_more (marks_of other) front place false sized (omega (arith, lt, total)) begins) good

-- the marks after one is set at a place, up to and with that place
pub marks_set : (contests : List Contest) (deck new : Ballots) (place n : ℕ) (on : Bool)
    (first : List (List Bool)) → IsDeck deck → deck.targets ≡ target_count contests
    → n ≡ target_count contests → 0 < target_count contests → length deck.ballots ≡ length first
    → place < length first * target_count contests
    → take place (marks_of deck.ballots) ≡ take place (marks_of first)
    → new ≡ with_mark deck (place / n) (place % n) on
    → take (place + 1) (marks_of new.ballots) ≡ take place (marks_of first) ++ on ∷ []
marks_set contests deck new place n on first is targets e some sized lt same set_so =
    let fits = subst (λ (m : ℕ). Fits m deck.ballots) (targets ∙ sym e) is.fits in
    let positive : 0 < n = omega (arith, e, some) in
    let inside : place < length deck.ballots * n = subst (λ (m : ℕ). place < m) (sym (λ i. sized i * e i)) lt in
    let t : place % n < n = omega (arith, positive) in
    ap (λ (d : Ballots). take (place + 1) (marks_of d.ballots)) set_so
    ∙ ap (take (place + 1)) (marks_of-set n deck.ballots (place / n) (place % n) on fits (place_ballot place n (length deck.ballots) positive inside) t
    ∙ ap (λ (i : ℕ). set (marks_of deck.ballots) i on) (place_back place n positive))
    ∙ front_set (marks_of deck.ballots) (marks_of first) place on (omega (arith, inside, length-marks_of n deck.ballots fits)) same

-- what is known of the second fact where the first doesn't hold
pub match_more : (A B C : Type 0) (b : Bool) → MatchBool b A B → (B → C) → MatchBool b A C
match_more A B C true h f = h
match_more A B C false h f = f h

pub match_false : (A B : Type 0) (b : Bool) → b ≡ false → MatchBool b A B → B
match_false A B true e h = cc
match_false A B false e h = h

-- no smaller deck, and none of k ballots
pub none_below_next : (contests : List Contest) (rules : RuleSet) (k : ℕ)
    → NoGoodBelow contests rules k → NoGoodFrom contests rules k []
    → NoGoodBelow contests rules (k + 1)
none_below_next contests rules k below here = λ deck lt. elim (cases_eq (length deck) k) [
  | inl e ↦ here deck e refl
  | inr n ↦ below deck (omega arith)
]

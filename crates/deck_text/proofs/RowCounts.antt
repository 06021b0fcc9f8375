-- Each row that is read is one row more of the deck, or of the totals.
use Rattle.std.proofs.Common.{◌≡◌, ◌<◌, ◌≤◌, ◌+◌, ◌==◌, ◌||◌, ℕ, Bool, true, false, cond, max, List, [], ◌∷◌, Option, Some, None, is_some, length, get_or, set, replicate, count_by, refl, ap, inl, inr, ◌∙◌, arith}
use Rattle.std.proofs.lemmas.Bool.{cases_Bool, eqb-true, or_parts}
use Rattle.std.proofs.lemmas.List.{get_or_push, length_push, length-replicate, get_or-replicate}
use Rattle.std.proofs.lemmas.List.Folds.{sum_by-replicate}
use Rattle.std.proofs.lemmas.List.Sums.{sum_by-append, sum_by-cons, sum_by-set, sum_by-le, count_by-le-length}
use Rattle.lat_base.specs.Rules.{is_blank}
use Rattle.lat_ballots.specs.Deck.{Ballots, IsDeck, ballot_at, mark_at}
use Rattle.deck_text.specs.declared.mark.Mark.{Mark}
use Rattle.deck_text.specs.declared.mark.Mark.TheVariants as mark
use Rattle.deck_text.specs.DeckRead.{IsMarkOf, last_ballot, with_blank, with_last_mark, with_ballot, with_further, with_row}
use Rattle.deck_text.specs.RowCount.{ballot_rows, deck_rows, total_rows}

abbrev marks : List Bool → ℕ
marks ballot = count_by (λ mark. mark) ballot

-- one mark more
mark_more : (ballot : List Bool) (t : ℕ) → t < length ballot → get_or ballot t false ≡ false
    → marks (set ballot t true) ≡ marks ballot + 1
mark_more ballot t low free =
    let other : ◌≡◌ {A = ℕ} (cond (get_or ballot t false) 1 0) 0 = ap (λ (m : Bool). cond m 1 0) free in
    omega (arith, other, sum_by-set (λ (m : Bool). cond m 1 0) ballot t true false low)

-- a ballot that isn't blank has a mark
some_mark : (ballot : List Bool) → is_blank ballot ≡ false → 1 ≤ marks ballot
some_mark [] h = cc
some_mark (true ∷ ballot) h = omega (arith, sum_by-cons (λ (m : Bool). cond m 1 0) true ballot)
some_mark (false ∷ ballot) h = omega (arith, sum_by-cons (λ (m : Bool). cond m 1 0) false ballot, some_mark ballot h)

no_marks : (n : ℕ) → marks (replicate n false) ≡ 0
no_marks n = omega (arith, sum_by-replicate (λ (m : Bool). cond m 1 0) n false)

blank_more : (deck : Ballots) → deck_rows (with_blank deck).ballots ≡ deck_rows deck.ballots + 1
blank_more deck =
    let blank = replicate deck.targets false in
    omega (arith, no_marks deck.targets, sum_by-append ballot_rows deck.ballots (blank ∷ []), sum_by-cons ballot_rows blank [])

-- a mark more on the last ballot, where it has one already
last_more : (deck : Ballots) (t : ℕ) → 0 < length deck.ballots
    → t < length (ballot_at deck (last_ballot deck)) → mark_at deck (last_ballot deck) t ≡ false
    → deck_rows (with_last_mark deck t).ballots + max 1 (marks (ballot_at deck (last_ballot deck)))
    ≡ deck_rows deck.ballots + (marks (ballot_at deck (last_ballot deck)) + 1)
last_more deck t some low free =
    omega (
      arith,
      mark_more (ballot_at deck (last_ballot deck)) t low free,
      sum_by-set ballot_rows deck.ballots (last_ballot deck) (set (ballot_at deck (last_ballot deck)) t true) [] (omega arith),
    )

last_blank : (deck : Ballots) → ballot_at (with_blank deck) (last_ballot (with_blank deck))
    ≡ replicate deck.targets false
last_blank deck =
    let blank = replicate deck.targets false in
    get_or_push deck.ballots blank [] (last_ballot (with_blank deck)) (omega (arith, length_push deck.ballots blank))

-- the first row of a ballot
ballot_more : (deck : Ballots) (m : Mark) → IsMarkOf deck.targets m
    → deck_rows (with_ballot deck m).ballots ≡ deck_rows deck.ballots + 1
ballot_more deck mark.Blank h = blank_more deck
ballot_more deck (mark.Target t) h =
    let e = last_blank deck in
    let none : marks (ballot_at (with_blank deck) (last_ballot (with_blank deck))) ≡ 0 = ap marks e ∙ no_marks deck.targets in
    let low : t < length (ballot_at (with_blank deck) (last_ballot (with_blank deck))) = omega (arith, h, ap length e, length-replicate deck.targets false) in
    let free : mark_at (with_blank deck) (last_ballot (with_blank deck)) t ≡ false = ap (λ (b : List Bool). get_or b t false) e ∙ get_or-replicate deck.targets t false false h in
    omega (arith, none, blank_more deck, last_more (with_blank deck) t (omega (arith, length_push deck.ballots (replicate deck.targets false))) low free)

new_is : (blank there : Bool) (x new : Ballots) → ◌≡◌ {A = Option Ballots} (cond (blank || there) None (Some x)) (Some new) → ((blank || there) ≡ false) × (x ≡ new)
new_is true there x new h = cc
new_is false true x new h = cc
new_is false false x new h = (refl, cc h)

-- a further row of it
further_more : (deck : Ballots) (m : Mark) (new : Ballots) → IsDeck deck → 0 < length deck.ballots
    → IsMarkOf deck.targets m → with_further deck m ≡ Some new
    → deck_rows new.ballots ≡ deck_rows deck.ballots + 1
further_more deck mark.Blank new is some h e = cc
further_more deck (mark.Target t) new is some h e =
    let last = ballot_at deck (last_ballot deck) in
    let (clear, same) = new_is (is_blank last) (mark_at deck (last_ballot deck) t) (with_last_mark deck t) new e in
    let (marked, free) = or_parts (is_blank last) (mark_at deck (last_ballot deck) t) clear in
    let long : length last ≡ deck.targets = is.fits (last_ballot deck) [] (omega arith) in
    omega (arith, some_mark last marked, last_more deck t some (omega (arith, long, h)) free, ap (λ (d : Ballots). deck_rows d.ballots) same)

-- a row is one row more
pub row_more : (deck : Ballots) (number : ℕ) (m : Mark) (new : Ballots) → IsDeck deck → 0 < number
    → IsMarkOf deck.targets m → with_row deck number m ≡ Some new
    → deck_rows new.ballots ≡ deck_rows deck.ballots + 1
row_more deck number m new is some h e = elim (cases_Bool (number == length deck.ballots)) [
  | inl same ↦
      let count : number ≡ length deck.ballots = eqb-true number (length deck.ballots) same in
      further_more deck m new is (omega arith) h (rw same at e)
  | inr other ↦
      let added : ◌≡◌ {A = Option Ballots} (Some (with_ballot deck m)) (Some new) = rw other at e in
      let is_new : with_ballot deck m ≡ new = cc in
      omega (arith, ballot_more deck m h, ap (λ (d : Ballots). deck_rows d.ballots) is_new)
]

-- a deck has at most 262,144 rows
pub rows_few : (deck : Ballots) → IsDeck deck → deck_rows deck.ballots ≤ 262144
rows_few deck is =
    let each : (k : ℕ) (d : List Bool) → k < length deck.ballots → ballot_rows (get_or deck.ballots k d) ≤ 256 =
    λ k d low. omega (arith, count_by-le-length (λ (m : Bool). m) (get_or deck.ballots k d), is.fits k d low, is.few_targets) in
    omega (arith, sum_by-le ballot_rows 256 deck.ballots each, is.few)

-- a total is one total more
pub total_more : (totals : List (Option ℕ)) (t n : ℕ) → t < length totals
    → is_some (get_or totals t None) ≡ false
    → total_rows (set totals t (Some n)) ≡ total_rows totals + 1
total_more totals t n low free =
    let other : ◌≡◌ {A = ℕ} (cond (is_some (get_or totals t None)) 1 0) 0 = ap (λ (b : Bool). cond b 1 0) free in
    omega (arith, other, sum_by-set (λ (o : Option ℕ). cond (is_some o) 1 0) totals t (Some n) None low)

-- there are at most as many totals as targets
pub totals_few : (totals : List (Option ℕ)) → total_rows totals ≤ length totals
totals_few totals = count_by-le-length is_some totals

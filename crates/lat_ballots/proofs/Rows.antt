-- The rows in which a deck keeps its ballots.
use Rattle.std.proofs.Common.{◌≡◌, ◌<◌, ◌≤◌, ℕ, zero, suc, Bool, false, List, [], ◌∷◌, length, get_or, map, take, set, replicate, ap, sym, subst, ◌∙◌, refl, arith}
use Rattle.std.proofs.lemmas.List.{get_or-map, map-set, length-map, length-take-le, take-replicate}
use Rattle.std.proofs.Math.Seq.{take-set-lt}
use Rattle.lat_ballots.specs.Deck.{Ballots, IsDeck, AreRows, ballots_of, ballot_at, with_mark, blank_ballots}

-- what a deck's rows keep is a deck
pub is_deck : (targets : ℕ) (rows : List (List Bool)) → AreRows targets rows
    → IsDeck (ballots_of targets rows)
is_deck targets rows are = record {
  fits = λ k d lt. let low : k < length rows = subst (λ (n : ℕ). k < n) (length-map rows (take targets)) lt in
      ap length (get_or-map (take targets) rows k [] d low)
      ∙ length-take-le targets (get_or rows k []) (omega (arith, are.long k [] low, are.few_targets));
  few = subst (λ (n : ℕ). n ≤ 1024) (sym (length-map rows (take targets))) are.few;
  few_targets = are.few_targets;
}

-- a row of a deck with one bit set so is the deck with one mark set so
pub set_deck : (deck : Ballots) (targets : ℕ) (rows : List (List Bool)) (place j t : ℕ) (on : Bool)
    (row changed : List Bool)
    → ballots_of targets rows ≡ deck → place ≡ j → j < length deck.ballots → t < deck.targets
    → row ≡ get_or rows place row → changed ≡ set row t on
    → ballots_of targets (set rows place changed) ≡ with_mark deck j t on
set_deck deck targets rows place j t on row changed e at h k is new =
    let within : place < length rows =
    subst (λ (n : ℕ). place < n) (length-map rows (take targets)) (subst (λ (d : Ballots). place < length d.ballots) (sym e) (subst (λ (p : ℕ). p < length deck.ballots) (sym at) h)) in
    let below : t < targets = subst (λ (d : Ballots). t < d.targets) (sym e) k in
    ap (λ (bs : List (List Bool)). record { targets = targets; ballots = bs })
    (map-set (take targets) rows place changed
    ∙ ap (λ (r : List Bool). set (map (take targets) rows) place r)
    (ap (take targets) new ∙ take-set-lt targets row t on below ∙ ap (λ (r : List Bool). set (take targets r) t on) is
    ∙ ap (λ (r : List Bool). set r t on) (sym (get_or-map (take targets) rows place row [] within))))
    ∙ (λ i. with_mark (e i) (at i) t on)

pub map-replicate : (f : List Bool → List Bool) (n : ℕ) (row : List Bool)
    → map f (replicate n row) ≡ replicate n (f row)
map-replicate f zero row = refl
map-replicate f (suc n) row = ap (λ (rows : List (List Bool)). f row ∷ rows) (map-replicate f n row)

-- blank rows are blank ballots
pub blank_deck : (targets n k count : ℕ) (rows : List (List Bool)) → targets ≡ n → n ≤ 256
    → rows ≡ replicate count (replicate 256 false) → count ≡ k
    → ballots_of targets rows ≡ blank_ballots n k
blank_deck targets n k count rows e few is all =
    ap (λ (rs : List (List Bool)). ballots_of targets rs) is
    ∙ ap (λ (bs : List (List Bool)). record { targets = targets; ballots = bs })
    (map-replicate (take targets) count (replicate 256 false)
    ∙ ap (λ (b : List Bool). replicate count b) (take-replicate targets 256 false (omega arith)))
    ∙ (λ i. blank_ballots (e i) (all i))

-- the row at a place is the ballot of that number, up to the targets
pub ballot_of_row : (deck : Ballots) (targets : ℕ) (rows : List (List Bool)) (place j : ℕ)
    (row : List Bool)
    → ballots_of targets rows ≡ deck → place ≡ j → j < length deck.ballots
    → row ≡ get_or rows place row → take targets row ≡ ballot_at deck j
ballot_of_row deck targets rows place j row e at h is =
    let within : place < length rows =
    subst (λ (n : ℕ). place < n) (length-map rows (take targets)) (subst (λ (d : Ballots). place < length d.ballots) (sym e) (subst (λ (p : ℕ). p < length deck.ballots) (sym at) h)) in
    ap (take targets) is ∙ sym (get_or-map (take targets) rows place row [] within) ∙ (λ i. ballot_at (e i) (at i))

-- A deck that is reordered is good exactly where it was.
use Rattle.std.proofs.Common.{◌≡◌, ◌≢◌, ◌<◌, ◌&&◌, ℕ, Bool, true, false, not, nat_lt, List, [], ◌∷◌, length, get_or, cond, count_by, map, refl, ap, sym, subst, ◌∙◌, arith, IsPermutation, ◌⊎◌, inl, inr}
use Rattle.std.specs.Prelude.{◌==◌}
use Rattle.std.specs.List.{list_all}
use Rattle.std.proofs.lemmas.List.{take_all, map-id, same_lists, get_or-map, length-map}
use Rattle.std.proofs.lemmas.Simd.{map-map}
use Rattle.std.proofs.lemmas.List.Sums.{sum_by-cons}
use Rattle.std.proofs.lemmas.List.Sorted.{length_permutation, IsPermutation-sym, All-permutation, sum_by-IsPermutation}
use Rattle.std.proofs.lemmas.Bool.Decides.{nat_tests}
use Rattle.lat_base.specs.declared.contest.Contest.{Contest}
use Rattle.lat_base.specs.Shape.{target_count, contest_at, contest_of, CanOvervote}
use Rattle.lat_base.specs.Misassignment.{identity}
use Rattle.lat_base.specs.Tally.{is_marked, reading, is_overvoted, votes_for, total, own_total}
use Rattle.lat_base.specs.Deck.{Fits}
use Rattle.lat_base.specs.Goodness.{IsRobust, IsGood}
use Rattle.lat_base.specs.Rules.{RuleSet, Obeys, is_blank}
use Rattle.readings.specs.Turn.{made, IsTurn}
use Rattle.readings.specs.Structural.{IsStructural, relabelled}
use Rattle.readings.proofs.Made.{made_is, made_long}
use Rattle.lemmas.proofs.Counting.{count_alike, count_map}
use Rattle.readings.proofs.Grouped.{range_marks}
use Rattle.readings.proofs.Over.{count_over}
use Rattle.readings.proofs.Readings.{reading_long, reading_made, reading_identity}
use Rattle.readings.proofs.Moves.{marks_move, totals_move}
use Rattle.readings.proofs.Reports.{same_report, report_same}
use Rattle.readings.proofs.Relabelling.{total_map, relabelled_robust}
use Rattle.symmetry.specs.Reordering.{IsReordered}

-- a ballot is blank where it has 0 marks
blank_counted : (b : List Bool) → is_blank b ≡ (count_by (λ m. m) b == 0)
blank_counted [] = refl
blank_counted (m ∷ b) = by_mark m (blank_counted b)
  where
    by_mark : (m : Bool) → is_blank b ≡ (count_by (λ x. x) b == 0)
        → (not m && list_all not b) ≡ (count_by (λ x. x) (m ∷ b) == 0)
    by_mark true rest = let a = sum_by-cons (λ (x : Bool). cond x 1 0) true b in grind (arith, nat_tests, a)
    by_mark false rest =
        let e : count_by (λ x. x) (false ∷ b) ≡ count_by (λ x. x) b = omega (arith, sum_by-cons (λ (x : Bool). cond x 1 0) false b) in
        rest ∙ ap (λ (k : ℕ). k == 0) (sym e)

-- a reading has as many marks
marks_kept : (n : ℕ) (f g : ℕ → ℕ) (b : List Bool) → IsTurn n f g → length b ≡ n
    → count_by (λ m. m) (reading b (made n f)) ≡ count_by (λ m. m) b
marks_kept n f g b turn long =
    count_map (λ t. is_marked b t) (λ m. m) (made n f) ∙ (count_over (λ t. is_marked b t) n (made n f) (made_is n f g turn) ∙ (range_marks b n ∙ ap (count_by (λ (m : Bool). m)) (take_all n b (omega (arith, long)))))

blank_kept : (n : ℕ) (f g : ℕ → ℕ) (deck : List (List Bool)) → IsTurn n f g → Fits n deck
    → count_by is_blank (relabelled n f deck) ≡ count_by is_blank deck
blank_kept n f g deck turn fits =
    count_map (λ b. reading b (made n f)) is_blank deck ∙ count_alike (λ (b : List Bool). is_blank (reading b (made n f))) is_blank deck
    (λ j d lt. let b = get_or deck j d in blank_counted (reading b (made n f)) ∙ (ap (λ (k : ℕ). k == 0) (marks_kept n f g b turn (fits j d lt)) ∙ sym (blank_counted b)))

-- a relabelled deck has each total at the new label
pub totals_relabelled : (contests : List Contest) (deck : List (List Bool)) (f turn : ℕ → ℕ) (u : ℕ)
    → IsStructural contests f turn → f u < target_count contests → u < target_count contests
    → Fits (target_count contests) deck
    → own_total contests (relabelled (target_count contests) f deck) u
    ≡ own_total contests deck (f u)
totals_relabelled contests deck f turn u is k h fits =
    let n = target_count contests in
    total_map contests deck (λ b. reading b (made n f)) (identity n) u
    ∙ (count_alike (λ (b : List Bool). votes_for contests (reading (reading b (made n f)) (identity n)) u) (λ (b : List Bool). votes_for contests (reading b (made n f)) u) deck
    (λ j d lt. ap (λ (r : List Bool). votes_for contests r u) (reading_identity (reading (get_or deck j d) (made n f)) n (reading_long (get_or deck j d) (made n f) ∙ made_long n f)))
    ∙ totals_move contests deck f turn u is k h fits)

over_kept : (contests : List Contest) (deck : List (List Bool)) (f turn : ℕ → ℕ) (c : ℕ)
    → IsStructural contests f turn → c < length contests → Fits (target_count contests) deck
    → count_by (λ b. is_overvoted contests b c) (relabelled (target_count contests) f deck)
    ≡ count_by (λ b. is_overvoted contests b (turn c)) deck
over_kept contests deck f turn c is lt fits =
    let n = target_count contests in
    count_map (λ b. reading b (made n f)) (λ (b : List Bool). is_overvoted contests b c) deck
    ∙ count_alike (λ (b : List Bool). is_overvoted contests (reading b (made n f)) c) (λ (b : List Bool). is_overvoted contests b (turn c)) deck
    (λ j d at.
    let limits : (contest_at contests c).limit ≡ (contest_at contests (turn c)).limit = ap (λ (x : Contest). x.limit) (sym (is.shape c lt)) in
    let counts = marks_move contests (get_or deck j d) f turn c is lt (fits j d at) in
    λ i. nat_lt (limits i) (counts i))

either_way : (a b : ℕ) → a ≢ b → (a < b) ⊎ (b < a)
either_way a b other = by_test (nat_lt a b) refl
  where
    by_test : (x : Bool) → nat_lt a b ≡ x → (a < b) ⊎ (b < a)
    by_test true e = inl (grind (arith, nat_tests, e))
    by_test false e = inr (grind (arith, nat_tests, e, other))

-- a relabelled deck obeys the rules
obeys_relabelled : (contests : List Contest) (rules : RuleSet) (deck : List (List Bool))
    (f g turn : ℕ → ℕ) → IsTurn (target_count contests) f g → IsStructural contests f turn
    → Fits (target_count contests) deck
    → Obeys contests rules deck → Obeys contests rules (relabelled (target_count contests) f deck)
obeys_relabelled contests rules deck f g turn is moved fits obeys =
    let n = target_count contests in
    let at : (u : ℕ) → u < n → own_total contests (relabelled n f deck) u ≡ own_total contests deck (f u) = λ u lt. totals_relabelled contests deck f turn u moved (is.within u lt) lt fits in
    record {
      blank = omega (arith, blank_kept n f g deck is fits, obeys.blank);
      over = λ c lt can. omega (arith, over_kept contests deck f turn c moved lt fits, obeys.over (turn c) (moved.within c lt) (subst CanOvervote (sym (moved.shape c lt)) can));
      least = λ t lt. omega (arith, at t lt, obeys.least (f t) (is.within t lt));
      distinct = λ on t u lt u_in same equal.
          let t_in : t < n = omega (arith, lt, u_in) in
          let equal_there : own_total contests deck (f t) ≡ own_total contests deck (f u) = sym (at t t_in) ∙ (equal ∙ at u u_in) in
          let together : contest_of contests (f t) ≡ contest_of contests (f u) = moved.contest t t_in ∙ (ap turn same ∙ sym (moved.contest u u_in)) in
          let apart : f t ≢ f u = λ e. absurd (omega (arith, lt, sym (is.back t t_in) ∙ (ap g e ∙ is.back u u_in))) in
          elim (either_way (f t) (f u) apart) [
            | inl before ↦ obeys.distinct on (f t) (f u) before (is.within u u_in) together equal_there
            | inr after ↦ obeys.distinct on (f u) (f t) after (is.within t t_in) (sym together) (sym equal_there)
          ];
    }

relabelled_fits : (n : ℕ) (f : ℕ → ℕ) (deck : List (List Bool)) → Fits n (relabelled n f deck)
relabelled_fits n f deck k d lt =
    let k_in : k < length deck = omega (arith, lt, length-map deck (λ (b : List Bool). reading b (made n f))) in
    ap length (get_or-map (λ (b : List Bool). reading b (made n f)) deck k d d k_in) ∙ (reading_long (get_or deck k d) (made n f) ∙ made_long n f)

-- a relabelled deck is good where the deck is
good_relabelled : (contests : List Contest) (rules : RuleSet) (deck : List (List Bool))
    (f g turn : ℕ → ℕ) → IsTurn (target_count contests) f g → IsStructural contests f turn
    → IsGood contests rules deck
    → IsGood contests rules (relabelled (target_count contests) f deck)
good_relabelled contests rules deck f g turn is moved good = record {
  fits = relabelled_fits (target_count contests) f deck;
  robust = relabelled_robust contests deck f g turn good.fits is moved good.robust;
  obeys = obeys_relabelled contests rules deck f g turn is moved good.fits good.obeys;
}

-- relabelled and then back, a deck is as it was
relabelled_back : (n : ℕ) (f g : ℕ → ℕ) (deck : List (List Bool)) → IsTurn n f g → Fits n deck
    → relabelled n g (relabelled n f deck) ≡ deck
relabelled_back n f g deck turn fits =
    let both : List Bool → List Bool = λ b. reading (reading b (made n f)) (made n g) in
    map-map (λ b. reading b (made n g)) (λ b. reading b (made n f)) deck
    ∙ same_lists (map both deck) deck (length-map deck both) (λ k d lt.
    let k_in : k < length deck = omega (arith, lt, length-map deck both) in
    let b = get_or deck k d in
    get_or-map both deck k d d k_in
    ∙ (reading_made b n f g (λ u. u) turn.back_within turn.forth ∙ (ap (reading b) (map-id (identity n)) ∙ reading_identity b n (fits k d k_in))))

-- the order of the ballots is of no matter to totals
pub totals_permuted : (contests : List Contest) (deck result : List (List Bool)) (s : List ℕ)
    (u : ℕ) → IsPermutation deck result → total contests result s u ≡ total contests deck s u
totals_permuted contests deck result s u same = sum_by-IsPermutation (λ (b : List Bool). cond (votes_for contests (reading b s) u) 1 0) deck result same

robust_permuted : (contests : List Contest) (deck result : List (List Bool))
    → IsPermutation deck result → IsRobust contests deck → IsRobust contests result
robust_permuted contests deck result same robust s is equal =
    robust s is (same_report contests deck s (identity (target_count contests)) (λ u lt.
    sym (totals_permuted contests deck result s u same) ∙ (report_same contests result s (identity (target_count contests)) u lt equal ∙ totals_permuted contests deck result (identity (target_count contests)) u same)))

-- a deck in another order obeys the rules where the deck does
obeys_permuted : (contests : List Contest) (rules : RuleSet) (deck result : List (List Bool))
    → IsPermutation deck result → Obeys contests rules deck → Obeys contests rules result
obeys_permuted contests rules deck result same obeys =
    let at : (u : ℕ) → own_total contests result u ≡ own_total contests deck u = λ u. totals_permuted contests deck result (identity (target_count contests)) u same in
    record {
      blank = omega (arith, sum_by-IsPermutation (λ (b : List Bool). cond (is_blank b) 1 0) deck result same, obeys.blank);
      over = λ c lt can. omega (arith, sum_by-IsPermutation (λ (b : List Bool). cond (is_overvoted contests b c) 1 0) deck result same, obeys.over c lt can);
      least = λ t lt. omega (arith, at t, obeys.least t lt);
      distinct = λ on t u lt u_in together equal. obeys.distinct on t u lt u_in together (sym (at t) ∙ (equal ∙ at u));
    }

-- a deck in another order is good where the deck is
good_permuted : (contests : List Contest) (rules : RuleSet) (deck result : List (List Bool))
    → IsPermutation deck result → IsGood contests rules deck → IsGood contests rules result
good_permuted contests rules deck result same good = record {
  fits = All-permutation (λ (b : List Bool). length b ≡ target_count contests) deck result same good.fits;
  robust = robust_permuted contests deck result same good.robust;
  obeys = obeys_permuted contests rules deck result same good.obeys;
}

-- a reordered deck is good where the deck is
pub reordered_good : (contests : List Contest) (rules : RuleSet) (deck result : List (List Bool))
    → IsReordered contests deck result → IsGood contests rules deck → IsGood contests rules result
reordered_good contests rules deck result is good =
    good_permuted contests rules (relabelled (target_count contests) is.source deck) result is.ballots
    (good_relabelled contests rules deck is.source is.targets.back is.targets.turn is.targets.turns is.targets.forth good)

-- and a deck is good where it is so reordered
pub good_reordered : (contests : List Contest) (rules : RuleSet) (deck result : List (List Bool))
    → Fits (target_count contests) deck → IsReordered contests deck result
    → IsGood contests rules result → IsGood contests rules deck
good_reordered contests rules deck result fits is good =
    let n = target_count contests in
    let turned : IsTurn n is.targets.back is.source = record { within = is.targets.turns.back_within; back_within = is.targets.turns.within; back = is.targets.turns.forth; forth = is.targets.turns.back } in
    subst (IsGood contests rules) (relabelled_back n is.source is.targets.back deck is.targets.turns fits)
    (good_relabelled contests rules (relabelled n is.source deck) is.targets.back is.source is.targets.turn_back turned is.targets.returns
    (good_permuted contests rules result (relabelled n is.source deck) (IsPermutation-sym (relabelled n is.source deck) result is.ballots) good))

-- a reordered deck obeys the rules where the deck does
pub reordered_obeys : (contests : List Contest) (rules : RuleSet) (deck result : List (List Bool))
    → Fits (target_count contests) deck → IsReordered contests deck result
    → Obeys contests rules deck → Obeys contests rules result
reordered_obeys contests rules deck result fits is obeys =
    obeys_permuted contests rules (relabelled (target_count contests) is.source deck) result is.ballots
    (obeys_relabelled contests rules deck is.source is.targets.back is.targets.turn is.targets.turns is.targets.forth fits obeys)

-- it has as many ballots
pub reordered_size : (contests : List Contest) (deck result : List (List Bool))
    → IsReordered contests deck result → length result ≡ length deck
reordered_size contests deck result is =
    length_permutation (relabelled (target_count contests) is.source deck) result is.ballots ∙ length-map deck (λ (b : List Bool). reading b (made (target_count contests) is.source))

-- A deck with blank ballots more is as good as the deck.
use Rattle.std.proofs.Common.{◌≡◌, ◌+◌, ◌≤◌, ◌&&◌, inl, inr, ℕ, zero, suc, Bool, false, not, cond, List, ◌∷◌, length, get_or, map, replicate, count_by, ap, sym, ◌∙◌, arith}
use Rattle.std.specs.List.{range_with_len}
use Rattle.std.proofs.lemmas.Bool.{cases_lt}
use Rattle.std.proofs.lemmas.List.{get_or-replicate, get_or_past, get_or-map, length-map, length-replicate}
use Rattle.std.proofs.lemmas.List.Sums.{sum_by-cons}
use Rattle.lat_base.specs.declared.contest.Contest.{Contest}
use Rattle.lat_base.specs.Deck.{Fits}
use Rattle.lat_base.specs.Goodness.{IsGood}
use Rattle.lat_base.specs.Misassignment.{identity}
use Rattle.lat_base.specs.Rules.{RuleSet, is_blank}
use Rattle.lat_base.specs.Shape.{target_count, contest_of}
use Rattle.lat_base.specs.Tally.{is_marked, reading, is_overvoted, votes_for, total, report, own_total}

-- a blank ballot marks nothing, however it is read
no_mark : (n t : ℕ) → is_marked (replicate n false) t ≡ false
no_mark n t = elim (cases_lt t n) [
  | inl below ↦ get_or-replicate n t false false below
  | inr past ↦ get_or_past (replicate n false) t false (omega (arith, past, length-replicate n false))
]

unread : (n u : ℕ) (s : List ℕ) → is_marked (reading (replicate n false) s) u ≡ false
unread n u s = elim (cases_lt u (length s)) [
  | inl below ↦ get_or-map (is_marked (replicate n false)) s u 0 false below ∙ no_mark n (get_or s u 0)
  | inr past ↦ get_or_past (reading (replicate n false) s) u false (omega (arith, past, length-map s (is_marked (replicate n false))))
]

-- so it votes for nothing
no_vote : (contests : List Contest) (n u : ℕ) (s : List ℕ)
    → votes_for contests (reading (replicate n false) s) u ≡ false
no_vote contests n u s = λ i. unread n u s i && not (is_overvoted contests (reading (replicate n false) s) (contest_of contests u))

not_counted : {X : Type 0} (p : X → Bool) (x : X) (xs : List X) → p x ≡ false
    → count_by p (x ∷ xs) ≡ count_by p xs
not_counted p x xs fails =
    let none : ◌≡◌ {A = ℕ} (cond (p x) 1 0) 0 = ap (λ (b : Bool). cond b 1 0) fails in
    omega (arith, none, sum_by-cons (λ y. cond (p y) 1 0) x xs)

counted_more : {X : Type 0} (p : X → Bool) (x : X) (xs : List X)
    → count_by p xs ≤ count_by p (x ∷ xs)
counted_more p x xs = omega (arith, sum_by-cons (λ y. cond (p y) 1 0) x xs)

-- the totals are as before
same_total : (contests : List Contest) (deck : List (List Bool)) (n u : ℕ) (s : List ℕ)
    → total contests (replicate n false ∷ deck) s u ≡ total contests deck s u
same_total contests deck n u s = not_counted (λ ballot. votes_for contests (reading ballot s) u) (replicate n false) deck (no_vote contests n u s)

same_report : (contests : List Contest) (deck : List (List Bool)) (n : ℕ) (s : List ℕ)
    → report contests (replicate n false ∷ deck) s ≡ report contests deck s
same_report contests deck n s = λ i. map (λ u. same_total contests deck n u s i) (range_with_len 0 (target_count contests))

same_own : (contests : List Contest) (deck : List (List Bool)) (n u : ℕ)
    → own_total contests (replicate n false ∷ deck) u ≡ own_total contests deck u
same_own contests deck n u = same_total contests deck n u (identity (target_count contests))

fits_more : (n : ℕ) (ballot : List Bool) (deck : List (List Bool)) → length ballot ≡ n → Fits n deck
    → Fits n (ballot ∷ deck)
fits_more n ballot deck long fits zero d h = long
fits_more n ballot deck long fits (suc j) d h = fits j d (omega (arith, h))

-- one blank ballot more
pub blank_good : (contests : List Contest) (rules : RuleSet) (deck : List (List Bool))
    → IsGood contests rules deck → IsGood contests rules
    (replicate (target_count contests) false ∷ deck)
blank_good contests rules deck good =
    let n = target_count contests in
    record {
      fits = fits_more n (replicate n false) deck (length-replicate n false) good.fits;
      robust = λ s is same. good.robust s is (sym (same_report contests deck n s) ∙ (same ∙ same_report contests deck n (identity n)));
      obeys = record {
        blank = omega (arith, good.obeys.blank, counted_more is_blank (replicate n false) deck);
        over = λ c h can. omega (arith, good.obeys.over c h can, counted_more (λ ballot. is_overvoted contests ballot c) (replicate n false) deck);
        least = λ t h. omega (arith, good.obeys.least t h, same_own contests deck n t);
        distinct = λ on t u lt h same equal. good.obeys.distinct on t u lt h same (sym (same_own contests deck n t) ∙ (equal ∙ same_own contests deck n u));
      };
    }

-- and several
pub padded_good : (contests : List Contest) (rules : RuleSet) (more : ℕ) (deck : List (List Bool))
    → IsGood contests rules deck
    → (padded : List (List Bool)) × IsGood contests rules padded
    × (length padded ≡ more + length deck)
padded_good contests rules zero deck good = (deck, good, omega arith)
padded_good contests rules (suc more) deck good =
    let rest = padded_good contests rules more deck good in
    (replicate (target_count contests) false ∷ rest.0, blank_good contests rules rest.0 rest.1, omega (arith, rest.2))

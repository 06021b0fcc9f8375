-- The sources of a misassignment as a function and its inverse.
use Rattle.std.proofs.Common.{◌≡◌, ◌<◌, ℕ, zero, suc, Bool, true, false, List, [], ◌∷◌, length, get_or, cond, count_by, refl, ap, sym, ◌∙◌, arith}
use Rattle.std.specs.Prelude.{◌==◌}
use Rattle.std.proofs.lemmas.List.FromFn.{fill_by_all}
use Rattle.std.proofs.lemmas.List.Sums.{sum_by-cons}
use Rattle.std.proofs.lemmas.Bool.Decides.{nat_tests}
use Rattle.lat_base.specs.Misassignment.{IsMisassignment, source}
use Rattle.readings.specs.Turn.{made, IsTurn}
use Rattle.readings.proofs.Within.{source_within}

-- the place of t in s, counted from 0
abbrev pub place : List ℕ → ℕ → ℕ
place [] t = 0
place (x ∷ s) t = cond (x == t) 0 (suc (place s t))

-- a list that has t once has it at that place, and nowhere else
pub record At (s : List ℕ) (t : ℕ) : Type 0 where
  pub inside : place s t < length s
  pub there : get_or s (place s t) 0 ≡ t
  pub alone : (u : ℕ) → u < length s → get_or s u 0 ≡ t → u ≡ place s t

none_left : (s : List ℕ) (t u : ℕ) → count_by (λ x. x == t) s ≡ 0 → u < length s → get_or s u 0 ≡ t
    → ⊥
none_left [] t u h lt e = omega (arith, lt)
none_left (x ∷ s) t zero h lt e =
    let one : ◌≡◌ {A = ℕ} (cond (x == t) 1 0) 1 = grind (arith, nat_tests, e) in
    omega (arith, h, sum_by-cons (λ (y : ℕ). cond (y == t) 1 0) x s, one)
none_left (x ∷ s) t (suc u) h lt e = none_left s t u (omega (arith, h, sum_by-cons (λ (y : ℕ). cond (y == t) 1 0) x s)) (omega (arith, lt)) e

pub once_at : (s : List ℕ) (t : ℕ) → count_by (λ x. x == t) s ≡ 1 → At s t
once_at [] t h = absurd (omega (arith, h))
once_at (x ∷ s) t h = by_test (x == t) refl (once_at s t)
  where
    first : (u : ℕ) → u < length (x ∷ s) → get_or (x ∷ s) u 0 ≡ t → count_by (λ y. y == t) s ≡ 0
        → u ≡ 0
    first zero lt same rest = refl
    first (suc u) lt same rest = absurd (none_left s t u rest (omega (arith, lt)) same)

    later : (u : ℕ) → u < length (x ∷ s) → get_or (x ∷ s) u 0 ≡ t → (x ≡ t → ⊥) → At s t
        → u ≡ suc (place s t)
    later zero lt same not_t deeper = absurd (not_t same)
    later (suc u) lt same not_t deeper = ap suc (deeper.alone u (omega (arith, lt)) same)

    by_test : (b : Bool) → (x == t) ≡ b → (count_by (λ y. y == t) s ≡ 1 → At s t) → At (x ∷ s) t
    by_test true e more =
        let one : ◌≡◌ {A = ℕ} (cond (x == t) 1 0) 1 = ap (λ (b : Bool). cond b 1 0) e in
        let rest : count_by (λ y. y == t) s ≡ 0 = omega (arith, h, sum_by-cons (λ (y : ℕ). cond (y == t) 1 0) x s, one) in
        let here : place (x ∷ s) t ≡ 0 = ap (λ (b : Bool). cond b 0 (suc (place s t))) e in
        let is_t : x ≡ t = grind (arith, nat_tests, e) in
        record {
          inside = omega (arith, here);
          there = ap (λ (k : ℕ). get_or (x ∷ s) k 0) here ∙ is_t;
          alone = λ u lt same. first u lt same rest ∙ sym here;
        }
    by_test false e more =
        let none : ◌≡◌ {A = ℕ} (cond (x == t) 1 0) 0 = ap (λ (b : Bool). cond b 1 0) e in
        let deeper = more (omega (arith, h, sum_by-cons (λ (y : ℕ). cond (y == t) 1 0) x s, none)) in
        let here : place (x ∷ s) t ≡ suc (place s t) = ap (λ (b : Bool). cond b 0 (suc (place s t))) e in
        let not_t : x ≡ t → ⊥ = grind (arith, nat_tests, e) in
        record {
          inside = omega (arith, here, deeper.inside);
          there = ap (λ (k : ℕ). get_or (x ∷ s) k 0) here ∙ deeper.there;
          alone = λ u lt same. later u lt same not_t deeper ∙ sym here;
        }

-- a misassignment goes through the targets, and its places go back
pub turn_of : (n : ℕ) (s : List ℕ) → IsMisassignment n s → ((u : ℕ) → u < n → source s u < n)
    → IsTurn n (source s) (place s)
turn_of n s is within = record {
  within = within;
  back_within = λ t lt. omega (arith, (once_at s t (is.once t lt)).inside, is.long);
  back = λ u lt. sym ((once_at s (source s u) (is.once (source s u) (within u lt))).alone u (omega (arith, lt, is.long)) refl);
  forth = λ t lt. (once_at s t (is.once t lt)).there;
}

-- a list of sources is made by its sources
pub made_of : (n : ℕ) (s : List ℕ) → length s ≡ n → s ≡ made n (source s)
made_of n s long = fill_by_all (source s) s n 0 long (λ k lt. refl)

-- turn f, then take back by g, what h does in between
pub turned_turn : (n : ℕ) (f g h i : ℕ → ℕ) → IsTurn n f g → IsTurn n h i
    → IsTurn n (λ u. f (h (g u))) (λ u. f (i (g u)))
turned_turn n f g h i a b = record {
  within = λ u lt. a.within (h (g u)) (b.within (g u) (a.back_within u lt));
  back_within = λ u lt. a.within (i (g u)) (b.back_within (g u) (a.back_within u lt));
  back = λ u lt. ap (λ (x : ℕ). f (i x)) (a.back (h (g u)) (b.within (g u) (a.back_within u lt))) ∙ (ap f (b.back (g u) (a.back_within u lt)) ∙ a.forth u lt);
  forth = λ u lt. ap (λ (x : ℕ). f (h x)) (a.back (i (g u)) (b.back_within (g u) (a.back_within u lt))) ∙ (ap f (b.forth (g u) (a.back_within u lt)) ∙ a.forth u lt);
}

-- different targets have different sources
pub apart_of : (n : ℕ) (s : List ℕ) (u w : ℕ) → IsMisassignment n s → u < n → w < n
    → source s u ≡ source s w → u ≡ w
apart_of n s u w is lu lw e =
    let turn = turn_of n s is (source_within n s is) in
    sym (turn.back u lu) ∙ (ap (place s) e ∙ turn.back w lw)

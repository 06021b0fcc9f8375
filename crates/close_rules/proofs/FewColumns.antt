-- Where there are fewer columns than targets, two targets have equal columns.
use Rattle.std.proofs.Common.{◌≡◌, ◌≢◌, ◌+◌, ◌^◌, ◌<◌, ◌≤◌, ◌&&◌, inl, inr, ℕ, zero, suc, Bool, true, false, not, nat_lt, List, [], ◌∷◌, length, cond, count_by, refl, ap, sym, ◌∙◌, arith, All}
use Rattle.std.specs.List.{range_with_len}
use Rattle.std.proofs.Math.Nat.{two-pow-succ}
use Rattle.std.proofs.Math.Pow.{pow_mono}
use Rattle.std.proofs.lemmas.List.Elements.{All-cons, All-nil}
use Rattle.std.proofs.lemmas.List.Sums.{sum_by-cons}
use Rattle.std.proofs.lemmas.Bool.{cases_lt, and_parts, not-true, le-ltb}
use Rattle.lat_base.specs.Tally.{is_marked}
use Rattle.lemmas.proofs.Counting.{split_count}

-- eight ballots have a column for each target
pub many_columns : (k n : ℕ) → 8 ≤ k → n ≤ 256 → nat_lt k 8 ≡ nat_lt (2 ^ k) n
many_columns k n h few =
    let many : 2 ^ 8 ≤ 2 ^ k = pow_mono h in
    le-ltb k 8 h ∙ sym (le-ltb (2 ^ k) n (omega (arith, many, few)))

-- all pass the test that is always true
pub all_counted : (ns : List ℕ) → count_by (λ n. true) ns ≡ length ns
all_counted [] = refl
all_counted (n ∷ ns) = omega (arith, sum_by-cons (λ (m : ℕ). cond true 1 0) n ns, all_counted ns)

-- a number of a range that passes a test
pub one_passes : (test : ℕ → Bool) (a n : ℕ) → 1 ≤ count_by test (range_with_len a n)
    → (u : ℕ) × (a ≤ u) × (u < a + n) × (test u ≡ true)
one_passes test a zero h = absurd (omega (arith, h))
one_passes test a (suc n) h = by_test (test a) refl (one_passes test (a + 1) n)
  where
    by_test : (b : Bool) → test a ≡ b
        → (1 ≤ count_by test (range_with_len (a + 1) n)
        → (u : ℕ) × (a + 1 ≤ u) × (u < a + 1 + n) × (test u ≡ true))
        → (u : ℕ) × (a ≤ u) × (u < a + suc n) × (test u ≡ true)
    by_test true e later = (a, omega arith, omega arith, e)
    by_test false e later =
        let none : ◌≡◌ {A = ℕ} (cond (test a) 1 0) 0 = ap (λ (b : Bool). cond b 1 0) e in
        let found = later (omega (arith, h, none, sum_by-cons (λ (m : ℕ). cond (test m) 1 0) a (range_with_len (a + 1) n))) in
        (found.0, omega (arith, found.1), omega (arith, found.2), found.3)

-- two targets that pass a test and have the same marks on each ballot
pub record AreSame (test : ℕ → Bool) (a n : ℕ) (deck : List (List Bool)) : Type 0 where
  pub first : ℕ
  pub second : ℕ
  pub other : first ≢ second
  pub first_in : first < a + n
  pub second_in : second < a + n
  pub passes : (test first ≡ true) × (test second ≡ true)
  pub same : All (λ ballot. is_marked ballot first ≡ is_marked ballot second) deck

two_pass : (test : ℕ → Bool) (a n : ℕ) → 2 ≤ count_by test (range_with_len a n)
    → AreSame test a n []
two_pass test a zero h = absurd (omega (arith, h))
two_pass test a (suc n) h = by_test (test a) refl (two_pass test (a + 1) n)
  where
    by_test : (b : Bool) → test a ≡ b
        → (2 ≤ count_by test (range_with_len (a + 1) n) → AreSame test (a + 1) n [])
        → AreSame test a (suc n) []
    by_test true e later =
        let one : ◌≡◌ {A = ℕ} (cond (test a) 1 0) 1 = ap (λ (b : Bool). cond b 1 0) e in
        let found = one_passes test (a + 1) n (omega (arith, h, one, sum_by-cons (λ (m : ℕ). cond (test m) 1 0) a (range_with_len (a + 1) n))) in
        record {
          first = a;
          second = found.0;
          other = λ same. omega (arith, same, found.1);
          first_in = omega arith;
          second_in = omega (arith, found.2);
          passes = (e, found.3);
          same = All-nil (λ (ballot : List Bool). is_marked ballot a ≡ is_marked ballot found.0);
        }
    by_test false e later =
        let none : ◌≡◌ {A = ℕ} (cond (test a) 1 0) 0 = ap (λ (b : Bool). cond b 1 0) e in
        let found = later (omega (arith, h, none, sum_by-cons (λ (m : ℕ). cond (test m) 1 0) a (range_with_len (a + 1) n))) in
        record {
          first = found.first;
          second = found.second;
          other = found.other;
          first_in = omega (arith, found.first_in);
          second_in = omega (arith, found.second_in);
          passes = found.passes;
          same = All-nil (λ (ballot : List Bool). is_marked ballot found.first ≡ is_marked ballot found.second);
        }

-- one more ballot, on which the targets that pass have the same mark
with_ballot : (test half : ℕ → Bool) (n : ℕ) (ballot : List Bool) (deck : List (List Bool))
    → (mark : Bool) → ((u : ℕ) → half u ≡ true → (test u ≡ true) × (is_marked ballot u ≡ mark))
    → AreSame half 0 n deck → AreSame test 0 n (ballot ∷ deck)
with_ballot test half n ballot deck mark tell found =
    let first = tell found.first found.passes.0 in
    let second = tell found.second found.passes.1 in
    record {
      first = found.first;
      second = found.second;
      other = found.other;
      first_in = found.first_in;
      second_in = found.second_in;
      passes = (first.0, second.0);
      same = All-cons (λ (b : List Bool). is_marked b found.first ≡ is_marked b found.second) ballot deck (first.1 ∙ sym second.1) found.same;
    }

-- of more targets than there are columns on the ballots of a deck, two are alike
pub two_alike : (n : ℕ) (deck : List (List Bool)) (test : ℕ → Bool)
    → 2 ^ length deck < count_by test (range_with_len 0 n) → AreSame test 0 n deck
two_alike n [] test h = two_pass test 0 n (omega (arith, h))
two_alike n (ballot ∷ deck) test h = elim (cases_lt (2 ^ length deck) (count_by (λ u. test u && is_marked ballot u) (range_with_len 0 n))) [
  | inl many ↦ with_ballot test (λ u. test u && is_marked ballot u) n ballot deck true (λ u passes. and_parts (test u) (is_marked ballot u) passes) (two_alike n deck (λ u. test u && is_marked ballot u) many)
  | inr few ↦
      let double : 2 ^ length (ballot ∷ deck) ≡ 2 ^ length deck + 2 ^ length deck = two-pow-succ (length deck) in
      let many : 2 ^ length deck < count_by (λ u. test u && not (is_marked ballot u)) (range_with_len 0 n) = omega (arith, h, few, double, split_count test (is_marked ballot) (range_with_len 0 n)) in
      with_ballot test (λ u. test u && not (is_marked ballot u)) n ballot deck false
      (λ u passes. let parts = and_parts (test u) (not (is_marked ballot u)) passes in (parts.0, not-true (is_marked ballot u) parts.1))
      (two_alike n deck (λ u. test u && not (is_marked ballot u)) many)
]

-- The plain deck obeys the rules and is canonical.
use Rattle.std.proofs.Common.{◌≡◌, ◌≢◌, ◌+◌, ◌-◌, ◌*◌, ◌<◌, ◌≤◌, ◌++◌, ℕ, zero, suc, Bool, true, false, not, List, [], ◌∷◌, length, get_or, map, replicate, cond, ap, sym, ◌∙◌, arith, All, nat_lt, inl, inr}
use Rattle.std.specs.List.{range_with_len, flat_map}
use Rattle.std.specs.Ordering.{nat_cmp, bool_cmp, ordering_then}
use Rattle.std.specs.Cmp.Lexicographic.{slice_cmp}
use Rattle.std.specs.declared.cmp.Ordering.TheVariants.{Less, Equal, Greater}
use Rattle.std.proofs.lemmas.Bool.{cases_lt}
use Rattle.std.proofs.lemmas.Bool.Decides.{nat_tests}
use Rattle.std.proofs.lemmas.List.{get_or-replicate, length-replicate}
use Rattle.std.proofs.lemmas.List.Elements.{All-append, All-replicate}
use Rattle.lat_base.specs.declared.contest.Contest.{Contest}
use Rattle.lat_base.specs.Canonical.{IsCanonical}
use Rattle.lat_base.specs.Rules.{RuleSet, Obeys, is_blank}
use Rattle.lat_base.specs.Shape.{target_count, first_target, contest_at, contest_of, IsShape}
use Rattle.lat_base.specs.Tally.{is_overvoted, own_total}
use Rattle.lat_ballots.specs.Plain.{only, only_ballots}
use Rattle.readings.proofs.Places.{nth_is_of, nth_within, contest_is, first_mono}
use Rattle.symmetry.specs.Order.{totals_of, RiseWithin, AreEarlier}
use Rattle.symmetry.proofs.CanonicalDecks.{canonical_of}
use Rattle.symmetry.proofs.Copies.{full, unmarked, full_marks, all_copies, full_overvoted, unmarked_blank}
use Rattle.symmetry.proofs.Falls.{IsNotSmaller, Falls, are_falling, falls_both, copies_fall, has_more, earlier_mark}
use Rattle.symmetry.proofs.PlainBallots.{singles, plain, are_single, only_long, of_full, in_three, plain_total}

pub plain_obeys : (contests : List Contest) (rules : RuleSet) → IsShape contests
    → Obeys contests rules (plain contests rules)
plain_obeys contests rules shape = record {
  blank = omega (arith, in_three contests rules is_blank, all_copies is_blank rules.blank (unmarked contests) (unmarked_blank contests));
  over = λ c h can. omega (arith, in_three contests rules (λ b. is_overvoted contests b c), all_copies (λ b. is_overvoted contests b c) rules.over (full contests) (full_overvoted contests c h can));
  least = λ t h. omega (arith, plain_total contests rules t shape h);
  distinct = λ asked t u lt h same equal.
      let t_in : t < target_count contests = omega (arith, lt, h) in
      omega (arith, lt, equal, plain_total contests rules t shape t_in, plain_total contests rules u shape h, ap (of_full contests rules) same);
}

-- the ballots are in order
singles_fall : (n : ℕ) (rules : RuleSet) (t m : ℕ) → t + m ≤ n
    → Falls (flat_map (only_ballots n rules) (range_with_len t m))
singles_fall n rules t zero le = λ i j lt within. absurd (omega (arith, within))
singles_fall n rules t (suc m) le =
    let copies = t + 1 + (rules.least - 1) in
    let rest = flat_map (only_ballots n rules) (range_with_len (t + 1) m) in
    falls_both (replicate copies (only n t)) rest (copies_fall copies (only n t)) (singles_fall n rules (t + 1) m (omega (arith, le)))
    (λ i j i_in j_in less.
    let here = get_or-replicate copies i (only n t) [] (omega (arith, i_in, length-replicate copies (only n t))) in
    let s = are_single n rules (t + 1) m (omega (arith, le)) j [] j_in in
    earlier_mark n t s.target (omega (arith, s.from)) s.within ((λ k. slice_cmp bool_cmp (sym here k) (sym s.is k)) ∙ less))

-- a ballot that is marked everywhere isn't smaller than another, nor one smaller that is marked
-- nowhere
full_first : (contests : List Contest) (b : List Bool) → length b ≡ target_count contests
    → IsNotSmaller (full contests) b
full_first contests b long =
    let n = target_count contests in
    has_more (full contests) b (length-replicate n true ∙ sym long) (λ t lt is. get_or-replicate n t true false (omega (arith, lt, length-replicate n true)))

unmarked_last : (contests : List Contest) (b : List Bool) → length b ≡ target_count contests
    → IsNotSmaller b (unmarked contests)
unmarked_last contests b long =
    let n = target_count contests in
    has_more b (unmarked contests) (long ∙ sym (length-replicate n false)) (λ t lt is. let none = get_or-replicate n t false false (omega (arith, lt, long)) in let bad : false ≡ true = sym none ∙ is in absurd (cc bad))

single_long : (contests : List Contest) (rules : RuleSet) (j : ℕ)
    → j < length (singles contests rules)
    → length (get_or (singles contests rules) j []) ≡ target_count contests
single_long contests rules j lt =
    let n = target_count contests in
    let s = are_single n rules 0 n (omega arith) j [] lt in ap length s.is ∙ only_long n s.target

front_falls : (contests : List Contest) (rules : RuleSet)
    → Falls (replicate rules.over (full contests) ++ singles contests rules)
front_falls contests rules =
    let n = target_count contests in
    falls_both (replicate rules.over (full contests)) (singles contests rules) (copies_fall rules.over (full contests)) (singles_fall n rules 0 n (omega arith))
    (λ i j i_in j_in less.
    let here = get_or-replicate rules.over i (full contests) [] (omega (arith, i_in, length-replicate rules.over (full contests))) in
    full_first contests (get_or (singles contests rules) j []) (single_long contests rules j j_in) ((λ k. slice_cmp bool_cmp (sym here k) (get_or (singles contests rules) j [])) ∙ less))

front_long : (contests : List Contest) (rules : RuleSet)
    → All (λ b. length b ≡ target_count contests)
    (replicate rules.over (full contests) ++ singles contests rules)
front_long contests rules =
    let n = target_count contests in
    let long : List Bool → Type 0 = λ b. length b ≡ n in
    All-append long (replicate rules.over (full contests)) (singles contests rules) (All-replicate long rules.over (full contests) (length-replicate n true))
    (λ i d lt. let s = are_single n rules 0 n (omega arith) i d lt in ap length s.is ∙ only_long n s.target)

plain_falls : (contests : List Contest) (rules : RuleSet) → Falls (plain contests rules)
plain_falls contests rules =
    let front = replicate rules.over (full contests) ++ singles contests rules in
    falls_both front (replicate rules.blank (unmarked contests)) (front_falls contests rules) (copies_fall rules.blank (unmarked contests))
    (λ i j i_in j_in less.
    let there = get_or-replicate rules.blank j (unmarked contests) [] (omega (arith, j_in, length-replicate rules.blank (unmarked contests))) in
    unmarked_last contests (get_or front i []) (front_long contests rules i [] i_in) ((λ k. slice_cmp bool_cmp (get_or front i []) (sym there k)) ∙ less))

-- totals rise, within contests
plain_rise : (contests : List Contest) (rules : RuleSet) → IsShape contests
    → RiseWithin contests (own_total contests (plain contests rules))
plain_rise contests rules shape t lt same =
    omega (arith, plain_total contests rules t shape (omega (arith, lt)), plain_total contests rules (t + 1) shape lt, ap (of_full contests rules) same)

-- lists of which each entry is at most the other's compare so
rises_to : (f : ℕ → ℕ) (a b n : ℕ) → ((i : ℕ) → i < n → f (a + i) ≤ f (b + i))
    → slice_cmp nat_cmp (map f (range_with_len a n)) (map f (range_with_len b n)) ≢ Greater
rises_to f a b zero le = λ greater. absurd (cc greater)
rises_to f a b (suc n) le = by_order (f a) (f b) (omega (arith, le 0 (omega arith), (ap f a_none), (ap f b_none))) (rises_to f (a + 1) (b + 1) n (λ i lt.
    let a_next : a + suc i ≡ a + 1 + i = omega arith in
    let b_next : b + suc i ≡ b + 1 + i = omega arith in
    omega (arith, le (suc i) (omega (arith, lt)), ap f a_next, ap f b_next)))
  where
    a_none : a + 0 ≡ a
    a_none = omega arith

    b_none : b + 0 ≡ b
    b_none = omega arith

    by_order : (x y : ℕ) → x ≤ y → slice_cmp nat_cmp (map f (range_with_len (a + 1) n))
        (map f (range_with_len (b + 1) n)) ≢ Greater
        → slice_cmp nat_cmp (x ∷ map f (range_with_len (a + 1) n))
        (y ∷ map f (range_with_len (b + 1) n)) ≢ Greater
    by_order x y h rest = elim (cases_lt x y) [
      | inl lt ↦
          let is : nat_cmp x y ≡ Less = grind (arith, nat_tests, lt) in
          λ greater. let bad : Less ≡ Greater = (λ i. ordering_then (sym is i) (slice_cmp nat_cmp (map f (range_with_len (a + 1) n)) (map f (range_with_len (b + 1) n)))) ∙ greater in absurd (cc bad)
      | inr le ↦
          let is : nat_cmp x y ≡ Equal = grind (arith, nat_tests, h, le) in
          λ greater. rest ((λ i. ordering_then (sym is i) (slice_cmp nat_cmp (map f (range_with_len (a + 1) n)) (map f (range_with_len (b + 1) n)))) ∙ greater)
    ]

-- full ballots give contests of one shape the same votes
same_full : (contests : List Contest) (rules : RuleSet) (c d : ℕ) → c < length contests
    → d < length contests → contest_at contests c ≡ contest_at contests d
    → of_full contests rules c ≡ of_full contests rules d
same_full contests rules c d h k same =
    let limits : (contest_at contests c).limit ≡ (contest_at contests d).limit = ap (λ (x : Contest). x.limit) same in
    let counts = full_marks contests c h ∙ (ap (λ (x : Contest). x.targets) same ∙ sym (full_marks contests d k)) in
    λ i. rules.over * cond (not (nat_lt (limits i) (counts i))) 1 0

plain_earlier : (contests : List Contest) (rules : RuleSet) → IsShape contests
    → AreEarlier contests (own_total contests (plain contests rules))
plain_earlier contests rules shape c d c_in lt d_in same greater =
    let total = own_total contests (plain contests rules) in
    let n = (contest_at contests c).targets in
    let wide : (contest_at contests d).targets ≡ n = ap (λ (x : Contest). x.targets) (sym same) in
    rises_to total (first_target contests c) (first_target contests d) n
    (λ i i_in.
    let d_at : i < (contest_at contests d).targets = omega (arith, i_in, wide) in
    let here = plain_total contests rules (first_target contests c + i) shape (nth_within contests c i c_in i_in) in
    let there = plain_total contests rules (first_target contests d + i) shape (nth_within contests d i d_in d_at) in
    let of_c : contest_of contests (first_target contests c + i) ≡ c = contest_is contests c (first_target contests c + i) (nth_is_of contests c i c_in i_in) in
    let of_d : contest_of contests (first_target contests d + i) ≡ d = contest_is contests d (first_target contests d + i) (nth_is_of contests d i d_in d_at) in
    omega (
      arith,
      here,
      there,
      ap (of_full contests rules) of_c,
      ap (of_full contests rules) of_d,
      same_full contests rules c d c_in d_in same,
      first_mono contests c d (omega (arith, lt)) (omega (arith, d_in)),
    ))
    (ap (λ (m : ℕ). slice_cmp nat_cmp (totals_of contests total c) (map total (range_with_len (first_target contests d) m))) (sym wide) ∙ greater)

pub plain_canonical : (contests : List Contest) (rules : RuleSet) → IsShape contests
    → IsCanonical contests (plain contests rules)
plain_canonical contests rules shape =
    canonical_of contests (plain contests rules) (are_falling (plain contests rules) (plain_falls contests rules)) (plain_rise contests rules shape) (plain_earlier contests rules shape)

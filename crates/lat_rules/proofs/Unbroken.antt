-- A deck obeys the rules exactly where none is broken.
use Rattle.std.proofs.Common.{◌≡◌, ◌<◌, ◌≤◌, ◌+◌, ◌-◌, ℕ, zero, suc, Bool, true, false, List, length, cond, Option, Some, None, refl, ap, sym, ◌∙◌, subst, arith, inl, inr}
use Rattle.std.specs.Prelude.{◌==◌, ◌&&◌, nat_lt}
use Rattle.std.specs.List.{range_with_len}
use Rattle.std.proofs.lemmas.List.Sums.{sum_by-take-le}
use Rattle.std.proofs.lemmas.Bool.{cases_eq, ltb-false, le-ltb, eqb-false, ne_eqb}
use Rattle.std.proofs.lemmas.Bool.Decides.{nat_tests}
use Rattle.lat_base.specs.declared.contest.Contest.{Contest}
use Rattle.lat_base.specs.Shape.{target_count, first_target, contest_at, contest_of}
use Rattle.lat_base.specs.Tally.{own_total}
use Rattle.lat_base.specs.Rules.{RuleSet, Obeys}
use Rattle.lat_rules.specs.declared.broken.Broken.{Broken}
use Rattle.lat_rules.specs.declared.broken.Broken.TheVariants.{Blank, Over, Least, Equal}
use Rattle.lat_rules.specs.Broken.{or_else, first_broken, blank_count, over_count, broken_blank, broken_over, broken_least, broken_pair, broken_equal, broken_distinct, broken_rule}
use Rattle.readings.proofs.Places.{is_of, contest_is}

neither : (a b : Option Broken) → or_else a b ≡ None → (a ≡ None) × (b ≡ None)
neither None b h = (refl, h)
neither (Some x) b h = cc

both : (a b : Option Broken) → a ≡ None → b ≡ None → or_else a b ≡ None
both None b h k = k
both (Some x) b h k = cc

failed : (b : Bool) (x : Broken) → cond b (Some x) None ≡ None → b ≡ false
failed true x h = cc
failed false x h = refl

fails : (b : Bool) (x : Broken) → b ≡ false → cond b (Some x) None ≡ None
fails true x h = cc
fails false x h = refl

each_none : (f : ℕ → Option Broken) (a n x : ℕ) → first_broken f (range_with_len a n) ≡ None → a ≤ x
    → x < a + n → f x ≡ None
each_none f a zero x h le lt = absurd (omega arith)
each_none f a (suc n) x h le lt =
    let parts = neither (f a) (first_broken f (range_with_len (a + 1) n)) h in
    elim (cases_eq a x) [
      | inl here ↦ ap f (sym here) ∙ parts.0
      | inr later ↦ each_none f (a + 1) n x parts.1 (omega arith) (omega arith)
    ]

none_each : (f : ℕ → Option Broken) (a n : ℕ) → ((x : ℕ) → a ≤ x → x < a + n → f x ≡ None)
    → first_broken f (range_with_len a n) ≡ None
none_each f a zero h = refl
none_each f a (suc n) h = both (f a) (first_broken f (range_with_len (a + 1) n)) (h a (omega arith) (omega arith)) (none_each f (a + 1) n (λ x le lt. h x (omega arith) (omega arith)))

not_both : (a b : Bool) → (a && b) ≡ false → a ≡ true → b ≡ false
not_both true b h e = h
not_both false b h e = cc

one_not : (a b : Bool) → (a ≡ true → b ≡ false) → (a && b) ≡ false
one_not true b h = h refl
one_not false b h = refl

pub obeyed : (contests : List Contest) (rules : RuleSet) (deck : List (List Bool))
    → broken_rule contests rules deck ≡ None → Obeys contests rules deck
obeyed contests rules deck h =
    let a = neither (broken_blank rules deck) _ h in
    let b = neither (first_broken (broken_over contests rules deck) (range_with_len 0 (length contests))) _ a.1 in
    let d = neither (first_broken (broken_least contests rules deck) (range_with_len 0 (target_count contests))) (broken_distinct contests rules deck) b.1 in
    record {
      blank = ltb-false (blank_count deck) rules.blank (failed (nat_lt (blank_count deck) rules.blank) (Blank (blank_count deck)) a.0);
      over = λ c lt can.
          let none = each_none (broken_over contests rules deck) 0 (length contests) c b.0 (omega arith) (omega arith) in
          let test : nat_lt (contest_at contests c).limit (contest_at contests c).targets ≡ true = grind (arith, nat_tests, can) in
          ltb-false (over_count contests deck c) rules.over
          (not_both (nat_lt (contest_at contests c).limit (contest_at contests c).targets) (nat_lt (over_count contests deck c) rules.over) (failed _ (Over c (over_count contests deck c)) none) test);
      least = λ t lt.
          let none = each_none (broken_least contests rules deck) 0 (target_count contests) t d.0 (omega arith) (omega arith) in
          ltb-false (own_total contests deck t) rules.least (failed (nat_lt (own_total contests deck t) rules.least) (Least t (own_total contests deck t)) none);
      distinct = λ on t u lt inside same.
          let all = ap (λ (x : Bool). cond x (first_broken (broken_equal contests deck) (range_with_len 0 (target_count contests))) None) (sym on) ∙ d.1 in
          let none = each_none (broken_equal contests deck) 0 (target_count contests) t all (omega arith) (omega arith) in
          let last : u < first_target contests (contest_of contests t + 1) = subst (λ (c : ℕ). u < first_target contests (c + 1)) (sym same) (is_of contests u inside).to in
          let pair = each_none (broken_pair contests deck t) (t + 1) (first_target contests (contest_of contests t + 1) - (t + 1)) u none (omega arith) (omega arith) in
          eqb-false (own_total contests deck t) (own_total contests deck u) (failed (own_total contests deck t == own_total contests deck u) (Equal t u (own_total contests deck t)) pair);
    }

distinct_by : (contests : List Contest) (rules : RuleSet) (deck : List (List Bool))
    → Obeys contests rules deck → (b : Bool) → rules.distinct ≡ b
    → broken_distinct contests rules deck ≡ None
distinct_by contests rules deck is false off = ap (λ (x : Bool). cond x (first_broken (broken_equal contests deck) (range_with_len 0 (target_count contests))) None) off
distinct_by contests rules deck is true on =
    ap (λ (x : Bool). cond x (first_broken (broken_equal contests deck) (range_with_len 0 (target_count contests))) None) on
    ∙ none_each (broken_equal contests deck) 0 (target_count contests) (λ t le lt.
    none_each (broken_pair contests deck t) (t + 1) (first_target contests (contest_of contests t + 1) - (t + 1)) (λ u above below.
    let within : u < target_count contests = omega (arith, sum_by-take-le (λ (x : Contest). x.targets) contests (contest_of contests t + 1), below, above) in
    let t_in = is_of contests t (omega arith) in
    let same = contest_is contests (contest_of contests t) u (record { contest = t_in.contest; from = omega (arith, t_in.from, above); to = omega arith }) in
    fails (own_total contests deck t == own_total contests deck u) (Equal t u (own_total contests deck t))
    (ne_eqb (own_total contests deck t) (own_total contests deck u) (is.distinct on t u (omega arith) within (sym same)))))

pub unbroken : (contests : List Contest) (rules : RuleSet) (deck : List (List Bool))
    → Obeys contests rules deck → broken_rule contests rules deck ≡ None
unbroken contests rules deck is =
    both (broken_blank rules deck) _ (fails (nat_lt (blank_count deck) rules.blank) (Blank (blank_count deck)) (le-ltb (blank_count deck) rules.blank is.blank))
    (both (first_broken (broken_over contests rules deck) (range_with_len 0 (length contests))) _
    (none_each (broken_over contests rules deck) 0 (length contests) (λ c le lt.
    fails (nat_lt (contest_at contests c).limit (contest_at contests c).targets && nat_lt (over_count contests deck c) rules.over) (Over c (over_count contests deck c))
    (one_not (nat_lt (contest_at contests c).limit (contest_at contests c).targets) (nat_lt (over_count contests deck c) rules.over)
    (λ can. le-ltb (over_count contests deck c) rules.over (is.over c (omega arith) (grind (arith, nat_tests, can)))))))
    (both (first_broken (broken_least contests rules deck) (range_with_len 0 (target_count contests))) (broken_distinct contests rules deck)
    (none_each (broken_least contests rules deck) 0 (target_count contests) (λ t le lt.
    fails (nat_lt (own_total contests deck t) rules.least) (Least t (own_total contests deck t)) (le-ltb (own_total contests deck t) rules.least (is.least t (omega arith)))))
    (distinct_by contests rules deck is rules.distinct refl)))

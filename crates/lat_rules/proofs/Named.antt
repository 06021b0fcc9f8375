-- What is broken is named by contests and targets of the style.
use Rattle.std.proofs.Common.{◌≡◌, ◌<◌, ◌≤◌, ◌+◌, ◌-◌, ◌⊎◌, inl, inr, ℕ, zero, suc, Bool, true, false, List, length, cond, Option, Some, None, subst, arith}
use Rattle.std.specs.Prelude.{◌==◌, ◌&&◌, nat_lt}
use Rattle.std.specs.List.{range_with_len}
use Rattle.std.proofs.lemmas.List.Sums.{sum_by-take-le}
use Rattle.lat_base.specs.declared.contest.Contest.{Contest}
use Rattle.lat_base.specs.Shape.{target_count, first_target, contest_at, contest_of}
use Rattle.lat_base.specs.Tally.{own_total}
use Rattle.lat_base.specs.Rules.{RuleSet}
use Rattle.lat_rules.specs.declared.broken.Broken.{Broken}
use Rattle.lat_rules.specs.declared.broken.Broken.TheVariants.{Blank, Over, Least, Equal}
use Rattle.lat_rules.specs.Broken.{or_else, first_broken, blank_count, over_count, broken_blank, broken_over, broken_least, broken_pair, broken_equal, broken_distinct, broken_rule, IsNamed}

either : (a b : Option Broken) (x : Broken) → or_else a b ≡ Some x → (a ≡ Some x) ⊎ (b ≡ Some x)
either None b x h = inr h
either (Some y) b x h = inl h

-- what is broken first is broken at some number
broken_at : (f : ℕ → Option Broken) (a n : ℕ) (x : Broken)
    → first_broken f (range_with_len a n) ≡ Some x
    → (i : ℕ) × (a ≤ i) × (i < a + n) × (f i ≡ Some x)
broken_at f a zero x h = cc
broken_at f a (suc n) x h = elim (either (f a) (first_broken f (range_with_len (a + 1) n)) x h) [
  | inl here ↦ (a, omega arith, omega arith, here)
  | inr later ↦ let rest = broken_at f (a + 1) n x later in (rest.0, omega (arith, rest.1), omega (arith, rest.2), rest.3)
]

named_if : (contests : List Contest) (b : Bool) (x y : Broken) → cond b (Some x) None ≡ Some y
    → IsNamed contests x → IsNamed contests y
named_if contests true x y h named = let same : x ≡ y = cc in subst (IsNamed contests) same named
named_if contests false x y h named = cc

pair_named : (contests : List Contest) (deck : List (List Bool)) (x : Broken)
    → first_broken (broken_equal contests deck) (range_with_len 0 (target_count contests)) ≡ Some x
    → IsNamed contests x
pair_named contests deck x h =
    let at_t = broken_at (broken_equal contests deck) 0 (target_count contests) x h in
    let t = at_t.0 in
    let at_u = broken_at (broken_pair contests deck t) (t + 1) (first_target contests (contest_of contests t + 1) - (t + 1)) x at_t.3 in
    let u = at_u.0 in
    let last = sum_by-take-le (λ (c : Contest). c.targets) contests (contest_of contests t + 1) in
    named_if contests (own_total contests deck t == own_total contests deck u) (Equal t u (own_total contests deck t)) x at_u.3
    (omega (arith, at_t.2), omega (arith, last, at_u.1, at_u.2))

by_distinct : (contests : List Contest) (deck : List (List Bool)) (x : Broken) (b : Bool)
    → cond b (first_broken (broken_equal contests deck) (range_with_len 0 (target_count contests)))
    None ≡ Some x → IsNamed contests x
by_distinct contests deck x true h = pair_named contests deck x h
by_distinct contests deck x false h = cc

pub named : (contests : List Contest) (rules : RuleSet) (deck : List (List Bool)) (x : Broken)
    → broken_rule contests rules deck ≡ Some x → IsNamed contests x
named contests rules deck x h = elim (either (broken_blank rules deck) _ x h) [
  | inl blank ↦ named_if contests (nat_lt (blank_count deck) rules.blank) (Blank (blank_count deck)) x blank tt
  | inr rest ↦ elim (either (first_broken (broken_over contests rules deck) (range_with_len 0 (length contests))) _ x rest) [
    | inl over ↦
        let at_c = broken_at (broken_over contests rules deck) 0 (length contests) x over in
        named_if contests (nat_lt (contest_at contests at_c.0).limit (contest_at contests at_c.0).targets && nat_lt (over_count contests deck at_c.0) rules.over) (Over at_c.0 (over_count contests deck at_c.0)) x at_c.3 (omega (arith, at_c.2))
    | inr others ↦ elim (either (first_broken (broken_least contests rules deck) (range_with_len 0 (target_count contests))) (broken_distinct contests rules deck) x others) [
      | inl least ↦
          let at_t = broken_at (broken_least contests rules deck) 0 (target_count contests) x least in
          named_if contests (nat_lt (own_total contests deck at_t.0) rules.least) (Least at_t.0 (own_total contests deck at_t.0)) x at_t.3 (omega (arith, at_t.2))
      | inr equal ↦ by_distinct contests deck x rules.distinct equal
    ]
  ]
]

-- The first place where two lists of totals differ.
use Rattle.std.proofs.Common.{◌≡◌, ◌↔◌, subst, Option, ◌≢◌, ◌<◌, inl, inr, ℕ, Bool, List, length, get_or, Some, ap, sym, ◌∙◌, arith}
use Rattle.std.specs.Prelude.{slice_get}
use Rattle.std.proofs.lemmas.Bool.{cases_lt}
use Rattle.std.proofs.lemmas.List.{ext_get_or}
use Rattle.std.proofs.lemmas.List.FromFn.{get_or-map-range_with_len, length-map-range_with_len}
use Rattle.std.proofs.lemmas.Option.{slice_get-get_or, get_or_from_slice_get}
use Rattle.lat_base.specs.declared.contest.Contest.{Contest}
use Rattle.lat_base.specs.Misassignment.{identity}
use Rattle.lat_base.specs.Shape.{target_count}
use Rattle.lat_base.specs.Tally.{total, own_total}
use Rattle.cert_types.specs.declared.proved.Proved.{Proved}
use Rattle.cert_types.specs.CertValue.{CertValue}
use Rattle.lat_judge.specs.declared.judging.Judged.TheVariants.{Pass, Differs}
use Rattle.lat_judge.specs.Judging.{ballots_of, own_report, expected, IsFirstDifference}

pub own_long : (contests : List Contest) (deck : List (List Bool))
    → length (own_report contests deck) ≡ target_count contests
own_long contests deck =
    length-map-range_with_len (total contests deck (identity (target_count contests))) 0 (target_count contests)

-- the total of a target in the report
pub own_at : (contests : List Contest) (deck : List (List Bool)) (t : ℕ)
    → t < target_count contests → slice_get (own_report contests deck) t
    ≡ Some (own_total contests deck t)
own_at contests deck t lt =
    let f : ℕ → ℕ = total contests deck (identity (target_count contests)) in
    let long = own_long contests deck in
    slice_get-get_or (own_report contests deck) t 0 (omega (arith, lt, long))
    ∙ ap (λ (x : ℕ). Some x) (get_or-map-range_with_len f 0 (target_count contests) t t 0 lt (omega arith))

-- where each place is equal the lists are
pub all_equal : (told wanted : List ℕ) (n : ℕ) → length told ≡ n → length wanted ≡ n
    → ((u : ℕ) → u < n → slice_get told u ≡ slice_get wanted u) → told ≡ wanted
all_equal told wanted n long wide same =
    ext_get_or 0 told wanted (long ∙ sym wide)
    (λ u lt. get_or_from_slice_get told u (get_or wanted u 0) 0
    (same u (omega (arith, lt, long)) ∙ slice_get-get_or wanted u 0 (omega (arith, lt, long, wide))))

-- two values of one place are equal
same_value : (told wanted : List ℕ) (t v o : ℕ) → slice_get told t ≡ slice_get wanted t
    → slice_get wanted t ≡ Some v → slice_get told t ≡ Some o → o ≡ v
same_value told wanted t v o same is_wanted is_told = cc

-- equal lists have no first difference
pub no_difference : (wanted told : List ℕ) (t v o : ℕ) → told ≡ wanted
    → IsFirstDifference wanted told t v o → ⊥
no_difference wanted told t v o same first =
    first.differ (same_value told wanted t v o (ap (λ (xs : List ℕ). slice_get xs t) same) first.is_wanted first.is_told)

-- a place where the lists differ isn't before the first
not_before : (wanted told : List ℕ) (t v o u w p : ℕ) → IsFirstDifference wanted told t v o
    → IsFirstDifference wanted told u w p → t < u → ⊥
not_before wanted told t v o u w p first other lt =
    first.differ (same_value told wanted t v o (other.before t lt) first.is_wanted first.is_told)

-- two first differences are one
pub same_place : (wanted told : List ℕ) (t v o u w p : ℕ) → IsFirstDifference wanted told t v o
    → IsFirstDifference wanted told u w p → t ≡ u
same_place wanted told t v o u w p first other = elim (cases_lt t u) [
  | inl lt ↦ absurd (not_before wanted told t v o u w p first other lt)
  | inr le ↦ elim (cases_lt u t) [
    | inl lt ↦ absurd (not_before wanted told u w p t v o other first lt)
    | inr ge ↦ omega (arith, le, ge)
  ]
]

-- the value of one place is one
pub one_value : (xs : List ℕ) (t u v w : ℕ) → t ≡ u → slice_get xs t ≡ Some v
    → slice_get xs u ≡ Some w → v ≡ w
one_value xs t u v w same first other = cc

-- where a told total isn't the wanted one, and all before are equal, is the first difference
pub first_here : (contests : List Contest) (deck : List (List Bool)) (told : List ℕ) (t v : ℕ)
    → length told ≡ target_count contests → t < target_count contests
    → v ≡ own_total contests deck t → get_or told t 0 ≢ v
    → ((u : ℕ) → u < t → slice_get told u ≡ slice_get (own_report contests deck) u)
    → IsFirstDifference (own_report contests deck) told t v (get_or told t 0)
first_here contests deck told t v long lt votes differ before = record {
  before = before;
  is_wanted = own_at contests deck t lt ∙ ap (λ (x : ℕ). Some x) (sym votes);
  is_told = slice_get-get_or told t 0 (omega (arith, lt, long));
  differ = differ;
}

-- and where they are equal the place is
pub equal_here : (contests : List Contest) (deck : List (List Bool)) (told : List ℕ) (t v : ℕ)
    → length told ≡ target_count contests → t < target_count contests
    → v ≡ own_total contests deck t → get_or told t 0 ≡ v
    → slice_get told t ≡ slice_get (own_report contests deck) t
equal_here contests deck told t v long lt votes same =
    slice_get-get_or told t 0 (omega (arith, lt, long))
    ∙ (ap (λ (x : ℕ). Some x) (same ∙ votes) ∙ sym (own_at contests deck t lt))

-- what is given is the first difference and no other
pub exactly_here : (wanted told : List ℕ) (t v o : ℕ) → IsFirstDifference wanted told t v o
    → (u w p : ℕ) → (Differs t v o ≡ Differs u w p) ↔ IsFirstDifference wanted told u w p
exactly_here wanted told t v o first u w p = (
  λ e.
      let at : t ≡ u = cc e in
      let votes : v ≡ w = cc e in
      let other : o ≡ p = cc e in
      subst (λ (x : ℕ). IsFirstDifference wanted told x w p) at
      (subst (λ (x : ℕ). IsFirstDifference wanted told t x p) votes
      (subst (λ (x : ℕ). IsFirstDifference wanted told t v x) other first)),
  λ second.
      let at = same_place wanted told t v o u w p first second in
      let votes = one_value wanted t u v w at first.is_wanted second.is_wanted in
      let other = one_value told t u o p at first.is_told second.is_told in
      cc (at, votes, other),
)

-- equal lists give none
pub nowhere : (wanted told : List ℕ) → told ≡ wanted → (t v o : ℕ)
    → (Pass ≡ Differs t v o) ↔ IsFirstDifference wanted told t v o
nowhere wanted told same t v o = (λ e. cc e, λ first. absurd (no_difference wanted told t v o same first))

-- the report that is expected of a certificate's deck
pub expected_there : (cert : CertValue) (contests : List Contest) (proved : Option Proved)
    (p : Proved) → contests ≡ cert.contests → proved ≡ cert.proved → proved ≡ Some p
    → own_report contests p.deck.ballots ≡ expected cert
expected_there cert contests proved p is own found =
    let ballots : p.deck.ballots ≡ ballots_of cert.proved = sym (ap ballots_of (sym own ∙ found)) in
    subst (λ (cs : List Contest). own_report contests p.deck.ballots ≡ own_report cs (ballots_of cert.proved)) is
    (ap (own_report contests) ballots)

-- What the tests of a misassignment show.
use Rattle.std.proofs.Common.{◌≡◌, ◌+◌, ◌<◌, ◌&&◌, ℕ, Bool, true, false, not, List, length, count_by, refl, ap, sym, subst, ◌∙◌, arith}
use Rattle.std.specs.Prelude.{◌==◌}
use Rattle.std.specs.List.{list_all, range_with_len}
use Rattle.std.proofs.lemmas.Bool.{and_parts, eqb-true, eq-eqb}
use Rattle.lat_base.specs.Misassignment.{IsMisassignment, identity, source}
use Rattle.lat_misassign.specs.Sources.{AreSources}
use Rattle.lat_misassign.proofs.Identity.{source_at_identity, identity_from}
use Rattle.close_rules.specs.Evading.{is_misassignment, stays}
use Rattle.close_rules.proofs.Passed.{at_number, each_number}

-- a test that each number below n passes
all_pass : (test : ℕ → Bool) (n : ℕ) → ((t : ℕ) → t < n → test t ≡ true)
    → list_all test (range_with_len 0 n) ≡ true
all_pass test n h = each_number test 0 n (λ i lt. let here : 0 + i ≡ i = omega arith in ap test here ∙ h i lt)

-- a misassignment passes the test of one
pub is_passed : (n : ℕ) (s : List ℕ) → IsMisassignment n s → is_misassignment n s ≡ true
is_passed n s is = λ i. eq-eqb (length s) n is.long i && all_pass (λ t. count_by (λ x. x == t) s == 1) n (λ t lt. eq-eqb (count_by (λ x. x == t) s) 1 (is.once t lt)) i

-- and what passes it is one
pub passed_is : (n : ℕ) (s : List ℕ) → is_misassignment n s ≡ true → IsMisassignment n s
passed_is n s h =
    let parts = and_parts (length s == n) (list_all (λ t. count_by (λ x. x == t) s == 1) (range_with_len 0 n)) h in
    record {
      long = eqb-true (length s) n parts.0;
      once = λ t lt.
          let here : 0 + t ≡ t = omega arith in
          eqb-true (count_by (λ x. x == t) s) 1 (ap (λ (u : ℕ). count_by (λ x. x == u) s == 1) (sym here) ∙ at_number (λ t. count_by (λ x. x == t) s == 1) 0 n t parts.1 lt);
    }

-- in the identity each target counts for itself
pub all_stay : (n : ℕ) (s : List ℕ) → length s ≡ n → s ≡ identity (length s)
    → list_all (stays s) (range_with_len 0 n) ≡ true
all_stay n s long e = all_pass (stays s) n (λ u lt. eq-eqb (source s u) u (source_at_identity s u (omega (arith, lt, long)) e))

-- and only in it
pub stay_identity : (n : ℕ) (s : List ℕ) → length s ≡ n
    → list_all (stays s) (range_with_len 0 n) ≡ true → s ≡ identity (length s)
stay_identity n s long h =
    identity_from s (λ u lt.
    let here : 0 + u ≡ u = omega arith in
    eqb-true (source s u) u (ap (stays s) (sym here) ∙ at_number (stays s) 0 n u h (omega (arith, lt, long))))

-- the identity evades nothing
pub identity_not : (n : ℕ) (s : List ℕ) (rest : Bool) → length s ≡ n → s ≡ identity (length s)
    → false ≡ (is_misassignment n s && (not (list_all (stays s) (range_with_len 0 n)) && rest))
identity_not n s rest long e = neither (is_misassignment n s) (list_all (stays s) (range_with_len 0 n)) (all_stay n s long e)
  where
    neither : (a b : Bool) → b ≡ true → false ≡ (a && (not b && rest))
    neither true b h = λ i. not (sym h i) && rest
    neither false b h = refl

-- another misassignment evades where the rest holds
pub other_where : (n : ℕ) (s : List ℕ) (rest : Bool) → AreSources s → length s ≡ n
    → (s ≡ identity (length s) → ⊥)
    → rest ≡ (is_misassignment n s && (not (list_all (stays s) (range_with_len 0 n)) && rest))
other_where n s rest are long other = by_answer (list_all (stays s) (range_with_len 0 n)) refl
  where
    by_answer : (b : Bool) → list_all (stays s) (range_with_len 0 n) ≡ b
        → rest ≡ (is_misassignment n s && (not (list_all (stays s) (range_with_len 0 n)) && rest))
    by_answer true e = absurd (other (stay_identity n s long e))
    by_answer false e = λ i. sym (is_passed n s (subst (λ (m : ℕ). IsMisassignment m s) long are.is)) i && (not (sym e i) && rest)

-- A list of sources with no fault is a misassignment.
use Rattle.std.proofs.Common.{◌≡◌, ◌<◌, ◌≤◌, ◌+◌, ◌++◌, ℕ, Bool, true, false, not, List, [], ◌∷◌, length, take, get_or, cond, if◌then◌else◌, count_by, refl, ap, sym, ◌∙◌, subst, arith, Option, Some, None, inl, inr, length-append, append_assoc}
use Rattle.std.specs.Prelude.{◌==◌, ◌||◌, nat_lt}
use Rattle.std.specs.List.{list_any}
use Rattle.std.proofs.Math.Seq.{take-append_seam}
use Rattle.std.proofs.Math.Seq.{get_or-append_seam}
use Rattle.std.proofs.lemmas.List.{append-nil}
use Rattle.std.proofs.lemmas.List.Sums.{sum_by-cons, sum_by-append}
use Rattle.std.proofs.lemmas.Bool.{cases_eq, or_parts}
use Rattle.std.proofs.lemmas.Bool.Decides.{nat_tests}
use Rattle.lat_base.specs.Misassignment.{IsMisassignment}
use Rattle.lat_base.proofs.ShapeFacts.{nothing}
use Rattle.lat_misassign.specs.declared.fault.MisFault.{MisFault}
use Rattle.lat_misassign.specs.declared.fault.MisFault.TheVariants.{OutOfRange, Repeated}
use Rattle.lat_misassign.specs.Sources.{AreSources}
use Rattle.lat_misassign.specs.SourceFault.{fault_from, source_fault}
use Rattle.readings.proofs.Within.{within_of}
use Rattle.lat_misassign.proofs.Counts.{count_of, one_fewer}

-- a number that isn't there stands no time
none_counted : (t : ℕ) (s : List ℕ) → list_any (λ x. x == t) s ≡ false → count_of t s ≡ 0
none_counted t [] h = refl
none_counted t (x ∷ s) h =
    let parts = or_parts (x == t) (list_any (λ y. y == t) s) h in
    let here : ◌≡◌ {A = ℕ} (cond (x == t) 1 0) 0 = ap (λ (b : Bool). cond b 1 0) parts.0 in
    omega (arith, sum_by-cons (λ (y : ℕ). cond (y == t) 1 0) x s, here, none_counted t s parts.1)

-- one more number at the end, which stood nowhere before
once_more : (before : List ℕ) (source t : ℕ) → ((u : ℕ) → count_of u before ≤ 1)
    → count_of source before ≡ 0 → count_of t (before ++ source ∷ []) ≤ 1
once_more before source t once none = by_last before source t once none (source == t) refl
  where
    by_last : (before : List ℕ) (source t : ℕ) → ((u : ℕ) → count_of u before ≤ 1)
        → count_of source before ≡ 0 → (b : Bool) → (source == t) ≡ b
        → count_of t (before ++ source ∷ []) ≤ 1
    by_last before source t once none true e =
        let same : source ≡ t = grind (arith, nat_tests) in
        let here : ◌≡◌ {A = ℕ} (cond (source == t) 1 0) 1 = ap (λ (b : Bool). cond b 1 0) e in
        omega (arith, sum_by-append (λ (y : ℕ). cond (y == t) 1 0) before (source ∷ []), sum_by-cons (λ (y : ℕ). cond (y == t) 1 0) source [], here, none, ap (λ (m : ℕ). count_of m before) same)
    by_last before source t once none false e =
        let here : ◌≡◌ {A = ℕ} (cond (source == t) 1 0) 0 = ap (λ (b : Bool). cond b 1 0) e in
        omega (arith, sum_by-append (λ (y : ℕ). cond (y == t) 1 0) before (source ∷ []), sum_by-cons (λ (y : ℕ). cond (y == t) 1 0) source [], here, once t)

-- every source is a target, and none stands twice
pub record Sound (n : ℕ) (s : List ℕ) : Type 0 where
  pub once : (t : ℕ) → count_of t s ≤ 1
  pub below : count_by (λ x. nat_lt x n) s ≡ length s

sound_more : (n : ℕ) (before : List ℕ) (source : ℕ) → Sound n before → nat_lt source n ≡ true
    → count_of source before ≡ 0 → Sound n (before ++ source ∷ [])
sound_more n before source sound lt none =
    let here : ◌≡◌ {A = ℕ} (cond (nat_lt source n) 1 0) 1 = ap (λ (b : Bool). cond b 1 0) lt in
    record {
      once = λ t. once_more before source t sound.once none;
      below = omega (arith, sum_by-append (λ (y : ℕ). cond (nat_lt y n) 1 0) before (source ∷ []), sum_by-cons (λ (y : ℕ). cond (nat_lt y n) 1 0) source [], here, sound.below, length-append before (source ∷ []));
    }

sound_from : (all before rest : List ℕ) → all ≡ before ++ rest → Sound (length all) before
    → fault_from all (length before) rest ≡ None → Sound (length all) all
sound_from all before [] e sound h = subst (Sound (length all)) (sym (e ∙ append-nil before)) sound
sound_from all before (source ∷ rest) e sound h =
    let range = nothing (not (nat_lt source (length all))) (OutOfRange (length before)) (if list_any (λ x. x == source) (take (length before) all) then Some (Repeated (length before)) else fault_from all (length before + 1) rest) h in
    let new = nothing (list_any (λ x. x == source) (take (length before) all)) (Repeated (length before)) (fault_from all (length before + 1) rest) range.1 in
    let front : take (length before) all ≡ before = ap (take (length before)) e ∙ take-append_seam before (source ∷ rest) in
    let none = none_counted source before (ap (list_any (λ x. x == source)) (sym front) ∙ new.0) in
    let lt : nat_lt source (length all) ≡ true = grind (arith, nat_tests, range.0) in
    let long : length before + 1 ≡ length (before ++ source ∷ []) = omega (arith, length-append before (source ∷ [])) in
    sound_from all (before ++ source ∷ []) rest (e ∙ sym (append_assoc before (source ∷ []) rest)) (sound_more (length all) before source sound lt none)
    (subst (λ (i : ℕ). fault_from all i rest ≡ None) long new.1)

-- n different targets of n are all of them
pub sound_is : (s : List ℕ) → Sound (length s) s → IsMisassignment (length s) s
sound_is s sound = record {
  long = refl;
  once = λ t lt. elim (cases_eq (count_of t s) 0) [
    | inl none ↦ absurd (omega (arith, one_fewer s (length s) t sound.once lt none, sound.below))
    | inr some ↦ omega (arith, sound.once t, some)
  ];
}

pub valid : (s : List ℕ) → source_fault s ≡ None → IsMisassignment (length s) s
valid s h = sound_is s (sound_from s [] s refl (record { once = λ t. omega arith; below = refl }) h)

pub valid_sources : (s : List ℕ) → source_fault s ≡ None → 1 ≤ length s → length s ≤ 256
    → AreSources s
valid_sources s h some few = record { some = some; few = few; is = valid s h }

-- a number that stands no time isn't there
none_listed : (t : ℕ) (s : List ℕ) → count_of t s ≡ 0 → list_any (λ x. x == t) s ≡ false
none_listed t [] h = refl
none_listed t (x ∷ s) h = by_first t x s h (none_listed t s) (x == t) refl
  where
    by_first : (t x : ℕ) (s : List ℕ) → count_of t (x ∷ s) ≡ 0
        → (count_of t s ≡ 0 → list_any (λ y. y == t) s ≡ false) → (b : Bool) → (x == t) ≡ b
        → list_any (λ y. y == t) (x ∷ s) ≡ false
    by_first t x s h rest true e =
        let here : ◌≡◌ {A = ℕ} (cond (x == t) 1 0) 1 = ap (λ (b : Bool). cond b 1 0) e in
        absurd (omega (arith, sum_by-cons (λ (y : ℕ). cond (y == t) 1 0) x s, here, h))
    by_first t x s h rest false e =
        let here : ◌≡◌ {A = ℕ} (cond (x == t) 1 0) 0 = ap (λ (b : Bool). cond b 1 0) e in
        ap (λ (b : Bool). b || list_any (λ y. y == t) s) e ∙ rest (omega (arith, sum_by-cons (λ (y : ℕ). cond (y == t) 1 0) x s, here, h))

both_pass : (a b : Bool) (x y : MisFault) (rest : Option MisFault) → a ≡ true → b ≡ false
    → rest ≡ None → (if not a then Some x else if b then Some y else rest) ≡ None
both_pass true false x y rest h k e = e
both_pass true true x y rest h k e = cc
both_pass false b x y rest h k e = cc

unfaulty_from : (all before rest : List ℕ) → all ≡ before ++ rest → IsMisassignment (length all) all
    → fault_from all (length before) rest ≡ None
unfaulty_from all before [] e is = refl
unfaulty_from all before (source ∷ rest) e is =
    let place : length before < length all = omega (arith, ap length e, length-append before (source ∷ rest)) in
    let here : get_or all (length before) 0 ≡ source = ap (λ (s : List ℕ). get_or s (length before) 0) e ∙ get_or-append_seam before source rest 0 in
    let below : source < length all = subst (λ (n : ℕ). n < length all) here (within_of (length all) all is (length before) 0 place) in
    let range : nat_lt source (length all) ≡ true = grind (arith, nat_tests) in
    let one : ◌≡◌ {A = ℕ} (cond (source == source) 1 0) 1 = grind (arith, nat_tests) in
    let count = ap (count_of source) (sym e) ∙ is.once source below in
    let none : count_of source before ≡ 0 =
    omega (arith, count, sum_by-append (λ (y : ℕ). cond (y == source) 1 0) before (source ∷ rest), sum_by-cons (λ (y : ℕ). cond (y == source) 1 0) source rest, one) in
    let front : take (length before) all ≡ before = ap (take (length before)) e ∙ take-append_seam before (source ∷ rest) in
    let new = ap (list_any (λ x. x == source)) front ∙ none_listed source before none in
    let long : length (before ++ source ∷ []) ≡ length before + 1 = omega (arith, length-append before (source ∷ [])) in
    let later = subst (λ (i : ℕ). fault_from all i rest ≡ None) long (unfaulty_from all (before ++ source ∷ []) rest (e ∙ sym (append_assoc before (source ∷ []) rest)) is) in
    both_pass (nat_lt source (length all)) (list_any (λ x. x == source) (take (length before) all)) (OutOfRange (length before)) (Repeated (length before)) (fault_from all (length before + 1) rest) range new later

-- a list with a fault is no misassignment
pub faulty : (s : List ℕ) (f : MisFault) → source_fault s ≡ Some f → ¬ IsMisassignment (length s) s
faulty s f h is = cc (h, unfaulty_from s [] s refl is)
